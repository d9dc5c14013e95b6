use Rattle.std.proofs.Common.{◌≤◌}
use Rattle.pd_shrink.specs.Moves.{moves_in}
use Rattle.pd_shrink.proofs.MovingLemmas.{moved_first}
use Rattle.pd_shrink.proofs.moving.move_run.Given as goal
use Rattle.pd_salvage.specs.Gather.{Takes}

-- the mappings so far were taken
abbrev pub invariant-loop-i : goal.invariant-loop-i
invariant-loop-i l = record {
  most : l.i ≤ l.run.length;
  takes : Takes (moved_first (moves_in l.moves) l.run l.i) l.fn.runs l.runs l.fn.joining l.joining;
}
