-- What the moving and the writing of a shrink do to its three devices: the metadata, the output and the data device.
use Rattle.std.specs.Prelude.{◌≡◌, ◌⊎◌, ℕ, Bool, List, [], map, Result, Ok, Err}
use Rattle.pd_kinds.specs.Objects.{Rose}
use Rattle.pd_kinds.specs.Crash.{HoldsSynced, IsUntouched, LeavesOnly, StillTells}
use Rattle.pd_answers.specs.Writebacks.{blocks_each, KeepsOthers}
use Rattle.pd_answers.specs.Shrinks.{copy_of_move, data_after, ShrinkGround, moves_of, pool_before}
use Rattle.pd_image.specs.Device.{KeepsPlace}
use Rattle.pd_restoring.specs.Made.{Ending, IsMade, done, failed, lacking}
use Rattle.pd_shrink.specs.declared.plan.Shrink.{Shrink}
use Rattle.pd_shrink.specs.Moves.{moves_in}
use Rattle.pd_shrink.specs.Planned.{IsPlanOf, content_after}
use Rattle.pd_tools.specs.declared.ending.Stop.{Stop}
use Rattle.pd_tools.specs.declared.ending.Stop.TheVariants.{Device, Stream, Memory}
use Rattle.pd_tools.specs.Opened.{Devices}

-- the data device has all that the plan moves in its place, with nothing unsynced, and then the new metadata were written
pub record HasMoved (shrink : Shrink) (ending : Ending) (old new : Devices) : Type 0 where
  pub moved : (shared : Bool) (basis : ShrinkGround shared) (held : List (List ℕ)) → IsPlanOf basis shrink → HoldsSynced held old.third
      → HoldsSynced (data_after (blocks_each (pool_before basis).block_size) (moves_of basis) held) new.third
  pub made : (shared : Bool) (basis : ShrinkGround shared) → IsPlanOf basis shrink → IsMade (content_after basis) ending old.output new.output

-- the data device failed, and the output was left alone
pub record FailsToMove (old new : Devices) : Type 0 where
  pub rose : Rose old.third.faults new.third.faults
  pub alone : IsUntouched old.output new.output
  pub unfailed : new.output.faults ≡ old.output.faults

-- or the output did
pub record FailsToWrite (shrink : Shrink) (old new : Devices) : Type 0 where
  pub rose : Rose old.output.faults new.output.faults
  pub has_moved : HasMoved shrink failed old new

-- how far it went
abbrev pub GoesAsFar : Shrink → Result ℕ Stop → Devices → Devices → Type 0
GoesAsFar shrink (Ok count) old new = HasMoved shrink done old new
GoesAsFar shrink (Err Device) old new = FailsToMove old new ⊎ FailsToWrite shrink old new
GoesAsFar shrink (Err Memory) old new = HasMoved shrink lacking old new
GoesAsFar shrink (Err Stream) old new = ⊥

-- what the moving and the writing of a plan leave, whatever their result
pub record IsWritten (shrink : Shrink) (result : Result ℕ Stop) (old new : Devices) : Type 0 where
  pub crash : (shared : Bool) (basis : ShrinkGround shared) (held : List (List ℕ)) → IsPlanOf basis shrink → HoldsSynced held old.third
      → LeavesOnly (λ image firsts. KeepsOthers (blocks_each (pool_before basis).block_size) (map copy_of_move (moves_of basis)) held image) old.third new.third
  pub told : StillTells old.third new.third
  pub cold : moves_in shrink.moves.items ≡ [] → IsUntouched old.third new.third
  pub goes_as_far : GoesAsFar shrink result old new
  pub output_place : KeepsPlace old.output new.output
  pub pool_place : KeepsPlace old.third new.third
