use Rattle.std.proofs.Common.{◌≡◌, ℕ, List, Some, IfSome, map, take}
use Rattle.std.specs.Option.{is_some}
use Rattle.pd_kinds.specs.Crash.{LeavesNow, LeavesOnly}
use Rattle.pd_image.specs.Device.{KeepsPlace}
use Rattle.pd_answers.specs.Writebacks.{overlaid}
use Rattle.pd_answers.specs.Shrinks.{copy_of_move}
use Rattle.pd_shrink.specs.Moves.{IsLeftKept, moves_in}
use Rattle.pd_shrink.proofs.moves.copy_moved.Given as goal

-- so many data blocks were copied
abbrev pub invariant-loop-one : goal.invariant-loop-one
invariant-loop-one g l = record {
  copied : IfSome (g.C.Device.state l.initial.pool).held (λ held.
      (g.C.Device.state l.pool).held ≡ Some (overlaid l.each (take l.one-index (map copy_of_move (moves_in l.moves))) held held));
  crash : (base : List (List ℕ)) → LeavesNow (IsLeftKept l.each (map copy_of_move (moves_in l.moves)) base) (g.C.Device.state l.initial.pool)
      → LeavesOnly (IsLeftKept l.each (map copy_of_move (moves_in l.moves)) base) (g.C.Device.state l.initial.pool) (g.C.Device.state l.pool);
  told : is_some (g.C.Device.state l.pool).held ≡ is_some (g.C.Device.state l.initial.pool).held;
  place : KeepsPlace (g.C.Device.state l.initial.pool) (g.C.Device.state l.pool);
  faults : (g.C.Device.state l.pool).faults ≡ (g.C.Device.state l.initial.pool).faults;
}
