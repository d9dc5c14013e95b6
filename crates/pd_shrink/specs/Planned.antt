-- What the plan of a shrink is, and of what.
use Rattle.std.specs.Prelude.{◌≡◌, ℕ, Bool, List, Option, Some, None, Result, Ok, Err, IfSome}
use Rattle.pd_kinds.specs.Image.{room_of}
use Rattle.pd_answers.specs.Writebacks.{blocks_each}
use Rattle.pd_answers.specs.Shrinks.{moved_saved, ShrinkLack, ShrinkGround, IsGroundOf, bad_block_size, lack_of, moves_of, no_room, pool_before}
use Rattle.pd_answers.specs.Repairs.{Saved}
use Rattle.pd_restoring.specs.Made.{Content, Ending, done, failed, lacking, unbegun}
use Rattle.pd_shrink.specs.declared.making.ShrinkFault.{ShrinkFault}
use Rattle.pd_shrink.specs.declared.making.ShrinkFault.TheVariants.{Memory, Meta, Output, BlockSize, NoRoom}
use Rattle.pd_shrink.specs.declared.plan.Shrink.{Shrink}
use Rattle.pd_shrink.specs.Kept.{IsKept, saved_content}
use Rattle.pd_shrink.specs.Moves.{moves_in}

-- the pool afterwards, with its shared leaves or without, and how it is written
abbrev pub saved_after : {is_shared : Bool} → ShrinkGround is_shared → Saved is_shared
saved_after {is_shared} basis = moved_saved is_shared basis.saved basis.end (moves_of basis)

abbrev pub content_after : {is_shared : Bool} → ShrinkGround is_shared → Content
content_after {is_shared} basis = saved_content is_shared (saved_after basis)

-- it is a plan of what a shrink goes by: the pool afterwards, what is moved, and how many blocks a data block has
pub record IsPlanOf {is_shared : Bool} (basis : ShrinkGround is_shared) (shrink : Shrink) : Type 0 where
  pub pool : IsKept is_shared (saved_after basis) shrink.moved
  pub moves : moves_in shrink.moves.items ≡ moves_of basis
  pub each : shrink.each ≡ blocks_each (pool_before basis).block_size

-- what a shrink goes by, with an output and a data device of so many blocks, and so many data blocks that are asked for
pub record GoesBy {is_shared : Bool} (held : Option (List (List ℕ))) (output pool blocks : ℕ) (basis : ShrinkGround is_shared) : Type 0 where
  pub data_blocks : basis.data_blocks ≡ pool
  pub room : basis.room ≡ room_of output
  pub told : IfSome held (λ image. IsGroundOf image blocks basis)

-- a plan was made of it
pub record IsPlanned {is_shared : Bool} (held : Option (List (List ℕ))) (output pool blocks : ℕ) (basis : ShrinkGround is_shared) (shrink : Shrink) : Type 0 where
  pub goes_by : GoesBy held output pool blocks basis
  pub fits : lack_of basis ≡ None
  pub plan : IsPlanOf basis shrink
  pub output_blocks : shrink.output_blocks ≡ output
  pub pool_blocks : shrink.pool_blocks ≡ pool

-- this is why there is none
pub record HasLack (is_shared : Bool) (held : Option (List (List ℕ))) (output pool blocks : ℕ) (lack : ShrinkLack) : Type 0 where
  pub basis : ShrinkGround is_shared
  pub goes_by : GoesBy held output pool blocks basis
  pub lacks : lack_of basis ≡ Some lack

abbrev pub IsUnplanned : Bool → Option (List (List ℕ)) → ℕ → ℕ → ℕ → ShrinkFault → Type 0
IsUnplanned is_shared held output pool blocks Memory = Unit {0}
IsUnplanned is_shared held output pool blocks Meta = Unit {0}
IsUnplanned is_shared held output pool blocks Output = ⊥
IsUnplanned is_shared held output pool blocks BlockSize = HasLack is_shared held output pool blocks bad_block_size
IsUnplanned is_shared held output pool blocks (NoRoom need there) = HasLack is_shared held output pool blocks (no_room need there)

-- what the making of a plan answers, without shared leaves or with them
abbrev pub Plans : Bool → Option (List (List ℕ)) → ℕ → ℕ → ℕ → Result Shrink ShrinkFault → Type 0
Plans is_shared held output pool blocks (Ok shrink) = (basis : ShrinkGround is_shared) × IsPlanned held output pool blocks basis shrink
Plans is_shared held output pool blocks (Err fault) = IsUnplanned is_shared held output pool blocks fault

-- how the writing of the new metadata ended
abbrev pub ending_of_written : Result (Unit {0}) ShrinkFault → Ending
ending_of_written (Ok answer) = done
ending_of_written (Err Memory) = lacking
ending_of_written (Err Meta) = unbegun
ending_of_written (Err Output) = failed
ending_of_written (Err BlockSize) = unbegun
ending_of_written (Err (NoRoom need blocks)) = unbegun
