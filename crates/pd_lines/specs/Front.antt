-- What bytes begin with.
-- Bytes on their way from a source to the lines.
-- What a line is.
use Rattle.std.specs.Prelude.{◌≡◌, ◌≢◌, ℕ, ◌<◌, ◌≤◌, List, ◌++◌, length, take, slice_index, Option, Some, ◌+◌, true, false}
use Rattle.std.specs.List.{AllByRecursion, list_all}
use Rattle.pd_grammar.specs.Texts.{is_printable}
use Rattle.pd_lines.specs.declared.buffer.Front.{Front}
use Rattle.pd_lines.specs.declared.buffer.Front.TheVariants.{Line, NotText, Open}

-- no byte is a line feed
abbrev pub IsUnbroken : List ℕ → Type 0
IsUnbroken bytes = AllByRecursion (λ b. b ≢ 10) bytes

-- since then bytes moved from what was left to what is held, and none was lost
pub record Moves (held_before held : List ℕ) (before now : Option (List ℕ)) : Type 0 where
  pub told : (left : List ℕ) → before ≡ Some left → (more : List ℕ) × ((now ≡ Some more) × (held ++ more ≡ held_before ++ left))

-- the first line feed of some bytes is in this place, which is at most 160
pub record EndsLine (bytes : List ℕ) (end : ℕ) : Type 0 where
  pub within : end < length bytes
  pub short : end ≤ 160
  pub unbroken : IsUnbroken (take end bytes)
  pub feed : slice_index bytes end ≡ 10

-- the bytes from a place up to another are printable
abbrev pub ArePrintable : List ℕ → ℕ → ℕ → Type 0
ArePrintable bytes at end = (k : ℕ) → at ≤ k → k < end → is_printable (slice_index bytes k) ≡ true

-- and the next one isn't, where there is one
pub record IsRun (bytes : List ℕ) (at end : ℕ) : Type 0 where
  pub ordered : at ≤ end
  pub within : end ≤ length bytes
  pub text : ArePrintable bytes at end
  pub other : end < length bytes → is_printable (slice_index bytes end) ≡ false

-- so many of the n bytes in a place are printable, and the next one of them isn't
pub record IsRunIn (bytes : List ℕ) (at n run : ℕ) : Type 0 where
  pub within : run ≤ n
  pub text : ArePrintable bytes at (at + run)
  pub other : run < n → is_printable (slice_index bytes (at + run)) ≡ false

-- these bytes begin with a line whose bytes are printable, with another line, or with none
abbrev pub IsFront : List ℕ → Front → Type 0
IsFront bytes (Line end) = EndsLine bytes end × (list_all is_printable (take end bytes) ≡ true)
IsFront bytes NotText = (end : ℕ) × (EndsLine bytes end × (list_all is_printable (take end bytes) ≡ false))
IsFront bytes Open = IsUnbroken (take 161 bytes)

-- a line, with its number
pub record LineText : Type 0 where
  pub number : ℕ
  pub bytes : List ℕ
