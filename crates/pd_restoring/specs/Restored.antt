-- What a restore promises, for any kind.
-- What is restored.
-- What is restored, from its third line on.
-- The faults of what a restore calls, as its own.
-- What is laid on a device whose block 0 is closed.
use Rattle.std.specs.Prelude.{◌≡◌, ℕ, ◌≤◌, true, Bool, List, [], Result, OnOk, IfSome, MatchResult, Some, ◌⊎◌, slice_set, Option, Ok, Err}
use Rattle.pd_kinds.specs.Image.{room_of}
use Rattle.pd_kinds.specs.Objects.{SourceState, DeviceState, Rose}
use Rattle.pd_kinds.specs.Crash.{HoldsOldOrNone, HoldsSynced, IsOldNoneOrMade, IsUntouched, LeavesOnly, StillTells, IsNoneOrNew}
use Rattle.pd_kinds.specs.declared.block.Block.{Block}
use Rattle.pd_grammar.specs.Spelling.{Verdict, accepted, refused, no_room, IsVerdict}
use Rattle.pd_grammar.specs.Texts.{TextFormat, reading}
use Rattle.pd_grammar.specs.Early.{is_decided_early}
use Rattle.pd_laid.specs.Laid.{Laid, Makes, laid_number, written_from}
use Rattle.pd_draft.specs.Closed.{StaysClosed, DraftState, Wrote, placed}
use Rattle.pd_texts.specs.declared.reader.TextFault.{TextFault}
use Rattle.pd_texts.specs.declared.reader.ReadFault.{ReadFault}
use Rattle.pd_texts.specs.declared.reader.ReadFault.TheVariants as t
use Rattle.pd_build.specs.declared.fault.BuildFault.{BuildFault}
use Rattle.pd_build.specs.declared.fault.BuildFault.TheVariants as b
use Rattle.pd_restoring.specs.declared.fault.RestoreFault.{RestoreFault}
use Rattle.pd_restoring.specs.declared.fault.MadeFault.{MadeFault}
use Rattle.pd_restoring.specs.declared.fault.RestoreFault.TheVariants as r
use Rattle.pd_restoring.specs.declared.fault.MadeFault.TheVariants as m

-- what is answered to a verdict; a fault of an object, or want of memory, may be answered to any
abbrev pub IsAccepted : {M : Type 0} → (M → Type 0) → Verdict M → Type 0
IsAccepted Lawful (accepted m) = Lawful m
IsAccepted Lawful (refused why) = ⊥
IsAccepted Lawful (no_room needed blocks) = ⊥

abbrev pub IsRefused : {M : Type 0} → TextFault → Verdict M → Type 0
IsRefused fault (accepted m) = ⊥
IsRefused fault (refused why) = why ≡ record { line = fault.line; cause = fault.cause }
IsRefused fault (no_room needed blocks) = ⊥

abbrev pub IsWithoutRoom : {M : Type 0} → ℕ → ℕ → Verdict M → Type 0
IsWithoutRoom need room (accepted m) = ⊥
IsWithoutRoom need room (refused why) = ⊥
IsWithoutRoom need room (no_room needed blocks) = (needed ≡ need) × (blocks ≡ room)

abbrev pub AnswersFault : {M : Type 0} → RestoreFault → Verdict M → Type 0
AnswersFault r.Memory verdict = Unit {0}
AnswersFault r.Source verdict = Unit {0}
AnswersFault r.Device verdict = Unit {0}
AnswersFault (r.Text fault) verdict = IsRefused fault verdict
AnswersFault (r.NoRoom need blocks) verdict = IsWithoutRoom need blocks verdict

abbrev pub AnswersVerdict : {M : Type 0} → (M → Type 0) → Result (Unit {0}) RestoreFault → Verdict M → Type 0
AnswersVerdict Lawful result verdict = MatchResult result (λ done. IsAccepted Lawful verdict) (λ fault. AnswersFault fault verdict)

-- the device isn't blamed
abbrev pub IsOfOthers : RestoreFault → Type 0
IsOfOthers r.Memory = Unit {0}
IsOfOthers r.Source = Unit {0}
IsOfOthers r.Device = ⊥
IsOfOthers (r.Text fault) = Unit {0}
IsOfOthers (r.NoRoom need blocks) = Unit {0}

-- line 1 or 2 is refused
abbrev pub IsOfFirstLines : RestoreFault → Type 0
IsOfFirstLines r.Memory = ⊥
IsOfFirstLines r.Source = ⊥
IsOfFirstLines r.Device = ⊥
IsOfFirstLines (r.Text fault) = fault.line ≤ 2
IsOfFirstLines (r.NoRoom need blocks) = ⊥

-- the counts of failures: that of the source rose where it is blamed, that of the device where that is, and else none
abbrev pub BlamesOne : RestoreFault → ℕ → ℕ → ℕ → ℕ → Type 0
BlamesOne r.Source s t d e = (Rose s t × (s ≤ t)) × (e ≡ d)
BlamesOne r.Device s t d e = (t ≡ s) × (Rose d e × (d ≤ e))
BlamesOne r.Memory s t d e = (t ≡ s) × (e ≡ d)
BlamesOne (r.Text fault) s t d e = (t ≡ s) × (e ≡ d)
BlamesOne (r.NoRoom need blocks) s t d e = (t ≡ s) × (e ≡ d)

abbrev pub CountsRestore : {T : Type 0} → Result T RestoreFault → ℕ → ℕ → ℕ → ℕ → Type 0
CountsRestore result s t d e = MatchResult result (λ done. (t ≡ s) × (e ≡ d)) (λ fault. BlamesOne fault s t d e)

-- a restore of a text onto a device, which may hold so much
pub record IsRestored {M : Type 0} (Lawful : M → Type 0) (IsVerdictOn : List ℕ → ℕ → Verdict M → Type 0) (is_early : List ℕ → ℕ → Bool) (laid : M → ℕ → Laid)
    (result : Result (Unit {0}) RestoreFault) (from to : SourceState) (old new : DeviceState) : Type 0 where
  pub verdict : Verdict M
  -- whether the first two lines decide
  pub early : Bool
  pub right : IfSome from.left (λ text. IsVerdictOn text (room_of old.blocks) verdict × (early ≡ is_early text (room_of old.blocks)))
  pub answer : AnswersVerdict Lawful result verdict
  -- a crash at any moment of the call, whatever its result, leaves the old image, no valid superblock, or what is made
  pub crash : (image : List (List ℕ)) → HoldsSynced image old → LeavesOnly (IsOldNoneOrMade image (Makes laid (room_of old.blocks) verdict image)) old new
  -- what was made holds of any device that tells what it held, also where something was unsynced
  pub made : OnOk result (IfSome old.held (λ image. IfSome new.held (λ now. Makes laid (room_of old.blocks) verdict image now × HoldsSynced now new)))
  pub told : StillTells old new
  -- only a fault of the device itself may leave more than what it held, or no valid superblock
  pub kept : MatchResult result (λ done. Unit {0}) (λ fault. IsOfOthers fault → HoldsOldOrNone old new)
  -- the refusal of line 1 or 2 leaves the device alone, also where the source doesn't tell its text
  pub first_lines : MatchResult result (λ done. Unit {0}) (λ fault. IsOfFirstLines fault → IsUntouched old new)
  pub untouched : early ≡ true → IsUntouched old new
  pub ended : OnOk result (IfSome from.left (λ text. to.left ≡ Some []))

-- what the texts of a kind of metadata mean and need, and how what they mean is laid
pub record Subject (L M : Type 0) : Type 1 where
  pub format : TextFormat L
  -- what lines mean, in their order
  pub Means : List L → M → Type 0
  -- what lines need, the newest first, where so many metadata blocks are there
  pub need : ℕ → List L → ℕ
  pub Lawful : M → Type 0
  -- what is laid where so many metadata blocks are there
  pub laid : M → ℕ → Laid

-- the verdict on a text where so many metadata blocks are there
abbrev pub IsVerdictOf : {L M : Type 0} → Subject L M → List ℕ → ℕ → Verdict M → Type 0
IsVerdictOf k text room verdict = IsVerdict k.format k.Means (k.need room) text room verdict

-- each text has a verdict
abbrev pub HasVerdicts : {L M : Type 0} → Subject L M → Type 0
HasVerdicts {L} {M} k = (text : List ℕ) (room : ℕ) → (v : Verdict M) × IsVerdictOf k text room v

-- A meaning is written but for its superblock, which is this block. Of the texts whose first two lines were read, where
-- the source tells one, that spells it, and has been read to its end
pub record Writes {L M : Type 0} (k : Subject L M) (room : ℕ) (IsOf : List ℕ → Type 0) (left : Option (List ℕ)) (start now : DraftState) (block : Block) : Type 0 where
  pub meaning : M
  pub lawful : k.Lawful meaning
  pub fits : laid_number (k.laid meaning room) ≤ room
  pub super_is : block.0 ≡ (k.laid meaning room).super_block
  pub wrote : Wrote (written_from 1 (k.laid meaning room).blocks) start now
  pub told : (t : List ℕ) → IsOf t → IsVerdictOf k t room (accepted meaning) × (left ≡ Some [])

-- the image with something laid written over it
unfoldable pub made_of : Laid → List (List ℕ) → List (List ℕ)
made_of laid image = slice_set (placed image 1 (written_from 1 laid.blocks)) 0 laid.super_block

-- a meaning is committed: a crash leaves no valid superblock, or what is laid of it; where the source tells its text,
-- that spells it
pub record Commits {L M : Type 0} (k : Subject L M) (room : ℕ) (IsOf : List ℕ → Type 0) (left : Option (List ℕ)) (old new : DeviceState) : Type 0 where
  pub meaning : M
  pub lawful : k.Lawful meaning
  pub fits : laid_number (k.laid meaning room) ≤ room
  pub told : (t : List ℕ) → IsOf t → IsVerdictOf k t room (accepted meaning) × (left ≡ Some [])
  pub crash : (image : List (List ℕ)) → old.held ≡ Some image → LeavesOnly (IsNoneOrNew (made_of (k.laid meaning room) image)) old new

-- and all is synced
pub record CommitsSynced {L M : Type 0} (k : Subject L M) (room : ℕ) (IsOf : List ℕ → Type 0) (left : Option (List ℕ)) (old new : DeviceState) : Type 0 where
  pub commits : Commits k room IsOf left old new
  pub done : (image : List (List ℕ)) → old.held ≡ Some image → HoldsSynced (made_of (k.laid commits.meaning room) image) new

-- it was tried, or nothing was committed: a crash leaves zeros in block 0
abbrev pub Tries : {L M : Type 0} → Subject L M → ℕ → (List ℕ → Type 0) → Option (List ℕ) → DeviceState → DeviceState → Type 0
Tries k room IsOf left old new = StaysClosed old new ⊎ Commits k room IsOf left old new

-- a fault that isn't the device's leaves block 0 closed
abbrev pub ShutBy : RestoreFault → DeviceState → DeviceState → Type 0
ShutBy r.Memory old new = StaysClosed old new
ShutBy r.Source old new = StaysClosed old new
ShutBy r.Device old new = Unit {0}
ShutBy (r.Text fault) old new = StaysClosed old new
ShutBy (r.NoRoom need blocks) old new = StaysClosed old new

-- what a restore promises of a kind of metadata
abbrev pub Restores : {L M : Type 0} → Subject L M → Result (Unit {0}) RestoreFault → SourceState → SourceState → DeviceState → DeviceState → Type 0
Restores k result from to old new =
    IsRestored k.Lawful (λ text room verdict. IsVerdictOf k text room verdict) (λ text room. is_decided_early (k.need room) room (reading k.format text).lines) k.laid result from to old new

abbrev pub read_fault : ReadFault → RestoreFault
read_fault t.Memory = r.Memory
read_fault t.Source = r.Source
read_fault (t.Text fault) = r.Text fault

abbrev pub build_fault : BuildFault → RestoreFault
build_fault b.Memory = r.Memory
build_fault b.Device = r.Device

-- a crash leaves no valid superblock, or what is laid
abbrev pub LaysOver : Laid → DeviceState → DeviceState → Type 0
LaysOver laid old new = (image : List (List ℕ)) → old.held ≡ Some image → LeavesOnly (IsNoneOrNew (made_of laid image)) old new

-- it is laid and synced; or a crash leaves zeros in block 0; or it was tried
abbrev pub Lays : Laid → Result (Unit {0}) MadeFault → DeviceState → DeviceState → Type 0
Lays laid (Ok done) old new = LaysOver laid old new × ((image : List (List ℕ)) → old.held ≡ Some image → HoldsSynced (made_of laid image) new)
Lays laid (Err m.Memory) old new = StaysClosed old new
Lays laid (Err m.Device) old new = StaysClosed old new ⊎ LaysOver laid old new
Lays laid (Err (m.NoRoom need blocks)) old new = ⊥
