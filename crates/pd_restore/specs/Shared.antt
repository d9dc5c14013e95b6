-- What is gathered of a pool's text of version 2.
use Rattle.std.specs.Prelude.{◌≡◌, ℕ, ◌+◌, ◌==◌, Bool, false, List, [], ◌∷◌, length}
use Rattle.pd_grammar.specs.ThinText.{Line, Run, map_line}
use Rattle.pd_laid.specs.PoolText.{Told, told_devices}
use Rattle.pd_draft.specs.Closed.{DraftState}
use Rattle.pd_devices.specs.declared.shared_devices.SharedDevices.{SharedDevices}
use Rattle.pd_devices.specs.SharedGathered.{HasGathered}
use Rattle.pd_restore.specs.declared.shared.SharedLines.{SharedLines}
use Rattle.pd_restore.specs.Reading.{CanTake}

-- whether the newest of some devices has no piece, so that it would end with an empty leaf
abbrev pub lacks_pieces : List Told → Bool
lacks_pieces [] = false
lacks_pieces (newest ∷ devices) = (length newest.own + newest.uses) == 0

-- these lines were gathered, and it is known how many they are, and whether the last device has no piece
pub record HasShared (room : ℕ) (before : List Line) (s : SharedLines) (start now : DraftState) : Type 0 where
  pub gathered : HasGathered room before s.devices start now
  pub lines : s.lines ≡ length before
  pub last : s.lacks_pieces ≡ lacks_pieces (told_devices before)

-- a run may be taken
pub record CanPutRun (room : ℕ) (s : SharedDevices) (r : Run) : Type 0 where
  pub now : DraftState
  pub can : CanTake HasGathered room s (map_line r) now
