-- A text that is read and restored, line by line; of lines the newest comes first.
-- What the first two lines of a text give.
use Rattle.std.specs.Prelude.{◌≡◌, ℕ, ◌≤◌, List, [], None, Some, Result, MatchResult, ◌∷◌}
use Rattle.pd_kinds.specs.Objects.{Rose}
use Rattle.pd_grammar.specs.Texts.{TextFormat, reading, refusal}
use Rattle.pd_grammar.specs.Spelling.{need_above_room}
use Rattle.pd_texts.specs.Reader.{in_order}
use Rattle.pd_restoring.specs.declared.fault.RestoreFault.{RestoreFault}
use Rattle.pd_restoring.specs.declared.fault.RestoreFault.TheVariants as r

-- no line so far, from line 2 on, needs more than the room
abbrev pub NoneAbove : {L : Type 0} → (ℕ → List L → ℕ) → ℕ → List L → Type 0
NoneAbove {L} need room before = (lines : List L) → need_above_room (need room) room [] (in_order before lines) ≡ need_above_room (need room) room before lines

-- what a fault says of a text: a line is refused, and none before it needs more than the room; or there is no room, and
-- so much is needed
abbrev pub SaysOf : {L : Type 0} → TextFormat L → (ℕ → List L → ℕ) → ℕ → List ℕ → RestoreFault → Type 0
SaysOf format need room t r.Memory = Unit {0}
SaysOf format need room t r.Source = Unit {0}
SaysOf format need room t r.Device = Unit {0}
SaysOf format need room t (r.Text fault) =
    (need_above_room (need room) room [] (reading format t).lines ≡ None) × (refusal format t ≡ Some (record { line = fault.line; cause = fault.cause }))
SaysOf format need room t (r.NoRoom needed blocks) = (need_above_room (need room) room [] (reading format t).lines ≡ Some needed) × (blocks ≡ room)

-- a fault of what builds
abbrev pub IsOfBuild : RestoreFault → Type 0
IsOfBuild (r.NoRoom need blocks) = ⊥
IsOfBuild r.Memory = Unit {0}
IsOfBuild r.Source = ⊥
IsOfBuild r.Device = Unit {0}
IsOfBuild (r.Text fault) = ⊥

-- the device's count of failures rose where it is blamed, and else stayed
abbrev pub BlamesDevice : RestoreFault → ℕ → ℕ → Type 0
BlamesDevice r.Device old new = Rose old new × (old ≤ new)
BlamesDevice r.Memory old new = new ≡ old
BlamesDevice r.Source old new = ⊥
BlamesDevice (r.Text fault) old new = ⊥
BlamesDevice (r.NoRoom need blocks) old new = new ≡ old

abbrev pub CountsTake : {T : Type 0} → Result T RestoreFault → ℕ → ℕ → Type 0
CountsTake result old new = MatchResult result (λ done. new ≡ old) (λ fault. BlamesDevice fault old new)

-- where a line is refused, it isn't one of the first two
abbrev pub IsOfLater : RestoreFault → Type 0
IsOfLater r.Memory = Unit {0}
IsOfLater r.Source = Unit {0}
IsOfLater r.Device = Unit {0}
IsOfLater (r.Text fault) = 3 ≤ fault.line
IsOfLater (r.NoRoom need blocks) = Unit {0}

-- a text begins with these two lines, the newest first
pub record BeginsWith {L : Type 0} (format : TextFormat L) (text : List ℕ) (lines : List L) : Type 0 where
  pub first : L
  pub second : L
  pub are : lines ≡ second ∷ first ∷ []
  pub rest : List L
  pub is : (reading format text).lines ≡ first ∷ second ∷ rest

-- what a fault says of a text before its third line: a line is refused, or nothing
abbrev pub BeginsOf : {L : Type 0} → TextFormat L → (ℕ → List L → ℕ) → ℕ → List ℕ → RestoreFault → Type 0
BeginsOf format need room t r.Memory = Unit {0}
BeginsOf format need room t r.Source = Unit {0}
BeginsOf format need room t r.Device = ⊥
BeginsOf format need room t (r.Text fault) = SaysOf format need room t (r.Text fault)
BeginsOf format need room t (r.NoRoom needed blocks) = ⊥

-- the count of the source's failures: it rose where the source is blamed, and else stayed
abbrev pub BlamesSource : RestoreFault → ℕ → ℕ → Type 0
BlamesSource r.Source old new = Rose old new × (old ≤ new)
BlamesSource r.Memory old new = new ≡ old
BlamesSource r.Device old new = ⊥
BlamesSource (r.Text fault) old new = new ≡ old
BlamesSource (r.NoRoom need blocks) old new = ⊥

abbrev pub CountsBegin : {T : Type 0} → Result T RestoreFault → ℕ → ℕ → Type 0
CountsBegin result old new = MatchResult result (λ done. new ≡ old) (λ fault. BlamesSource fault old new)
