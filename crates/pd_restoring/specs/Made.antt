-- What becomes of a device on which something is written that is held in memory.
use Rattle.std.specs.Prelude.{◌≡◌, ℕ, ◌<◌, ◌≤◌, List, Result, Ok, Err, IfSome}
use Rattle.pd_kinds.specs.Crash.{HoldsOldOrNone, HoldsSynced, IsOldNoneOrMade, IsUntouched, LeavesOnly, StillTells}
use Rattle.pd_kinds.specs.Image.{room_of}
use Rattle.pd_kinds.specs.Objects.{DeviceState, Rose}
use Rattle.pd_laid.specs.Laid.{Laid, IsLaid}
use Rattle.pd_restoring.specs.declared.fault.MadeFault.{MadeFault}
use Rattle.pd_restoring.specs.declared.fault.MadeFault.TheVariants as m

-- what is written: that it is lawful, how many blocks it needs where so many metadata blocks are there, and how it is laid there
pub record Content : Type 1 where
  pub Lawful : Type 0
  pub need : ℕ → ℕ
  pub laid : ℕ → Laid

-- how it ended: all was made; memory was wanting; the device failed; there was no room; or it never began
pub data Ending : Type 0 where
  done : Ending
  lacking : Ending
  failed : Ending
  short : ℕ → ℕ → Ending
  unbegun : Ending

-- what an ending says of what is written, and of the room for it: how much is needed is exact
abbrev pub AnswersEnding : Ending → Content → ℕ → Type 0
AnswersEnding done content room = content.Lawful × (content.need room ≤ room)
AnswersEnding lacking content room = Unit {0}
AnswersEnding failed content room = Unit {0}
AnswersEnding (short need blocks) content room = (need ≡ content.need room) × ((blocks ≡ room) × (room < need))
AnswersEnding unbegun content room = Unit {0}

-- all was made
abbrev pub IsDone : Ending → Type 0
IsDone done = Unit {0}
IsDone lacking = ⊥
IsDone failed = ⊥
IsDone (short need blocks) = ⊥
IsDone unbegun = ⊥

-- it was not, and the device isn't blamed
abbrev pub IsOfOthers : Ending → Type 0
IsOfOthers done = ⊥
IsOfOthers lacking = Unit {0}
IsOfOthers failed = ⊥
IsOfOthers (short need blocks) = Unit {0}
IsOfOthers unbegun = Unit {0}

-- it ended before the device was written
abbrev pub IsEarly : Ending → Type 0
IsEarly done = ⊥
IsEarly lacking = ⊥
IsEarly failed = ⊥
IsEarly (short need blocks) = Unit {0}
IsEarly unbegun = Unit {0}

-- an image is made where there is room: the content is laid over what the device held
abbrev pub MakesContent : Content → ℕ → List (List ℕ) → List (List ℕ) → Type 0
MakesContent content room old new = (content.need room ≤ room) × IsLaid (content.laid room) old new

-- what becomes of the device
pub record IsMade (content : Content) (ending : Ending) (old new : DeviceState) : Type 0 where
  pub answer : AnswersEnding ending content (room_of old.blocks)
  -- a crash at any moment of the call, however it ends, leaves the old image, no valid superblock, or what is made
  pub crash : (image : List (List ℕ)) → HoldsSynced image old → LeavesOnly (IsOldNoneOrMade image (MakesContent content (room_of old.blocks) image)) old new
  -- what was made holds of any device that tells what it held, also where something was unsynced
  pub made : IsDone ending → IfSome old.held (λ image. IfSome new.held (λ now. IsLaid (content.laid (room_of old.blocks)) image now × HoldsSynced now new))
  pub told : StillTells old new
  -- only a fault of the device itself may leave more than what it held, or no valid superblock
  pub kept : IsOfOthers ending → HoldsOldOrNone old new
  -- the room is looked at before the first write
  pub untouched : room_of old.blocks < content.need (room_of old.blocks) → IsUntouched old new
  pub early : IsEarly ending → IsUntouched old new

-- how a call that writes ended
abbrev pub ending_of : Result (Unit {0}) MadeFault → Ending
ending_of (Ok answer) = done
ending_of (Err m.Memory) = lacking
ending_of (Err m.Device) = failed
ending_of (Err (m.NoRoom need blocks)) = short need blocks

-- the device's count of faults rose where it is blamed, and else stayed
abbrev pub CountsMade : Result (Unit {0}) MadeFault → ℕ → ℕ → Type 0
CountsMade (Ok answer) old new = new ≡ old
CountsMade (Err m.Memory) old new = new ≡ old
CountsMade (Err m.Device) old new = Rose old new × (old ≤ new)
CountsMade (Err (m.NoRoom need blocks)) old new = new ≡ old
