-- Trusted base.
-- What a text spells, and the verdict on it where so many blocks are there.
use Rattle.std.specs.Prelude.{◌≡◌, ℕ, ◌==◌, ◌&&◌, not, nat_lt, if◌then◌else◌, List, [], ◌∷◌, length, Option, Some, None}
use Rattle.pd_grammar.specs.Texts.{TextFormat, Refusal, reading, refusal, text_of_lines}

-- the text is that of lines that mean this
pub record Spells {L M : Type 0} (format : TextFormat L) (Means : List L → M → Type 0) (text : List ℕ) (m : M) : Type 0 where
  pub lines : List L
  pub bytes : text ≡ text_of_lines format lines
  pub means : Means lines m

-- The need of the lines up to the first one, from line 2 on, after which it is above the room; none where there is no
-- such line. The last two lists are the lines before, the newest first, and those that follow
abbrev pub need_above_room : {L : Type 0} → (List L → ℕ) → ℕ → List L → List L → Option ℕ
need_above_room need room before [] = None
need_above_room need room before (line ∷ lines) =
    if not (length before == 0) && nat_lt room (need (line ∷ before)) then Some (need (line ∷ before))
    else need_above_room need room (line ∷ before) lines

-- what becomes of a text
pub data Verdict (M : Type 0) : Type 0 where
  -- it spells this, and there is room
  accepted : M → Verdict M
  -- a line is refused, and there was room up to it
  refused : Refusal → Verdict M
  -- up to some line more blocks are needed than there are: these are needed, and these are there
  no_room : ℕ → ℕ → Verdict M

-- The verdict on a text and a room: that of the least line that is refused, or after which the need so far is above
-- the room. A line that is refused has no need.
abbrev pub IsVerdict : {L M : Type 0} → TextFormat L → (List L → M → Type 0) → (List L → ℕ) → List ℕ → ℕ → Verdict M → Type 0
IsVerdict format Means need text room (accepted m) =
    (need_above_room need room [] (reading format text).lines ≡ None) × Spells format Means text m
IsVerdict format Means need text room (refused why) =
    (need_above_room need room [] (reading format text).lines ≡ None) × (refusal format text ≡ Some why)
IsVerdict format Means need text room (no_room needed blocks) =
    (need_above_room need room [] (reading format text).lines ≡ Some needed) × (blocks ≡ room)
