use Rattle.std.proofs.Common.{◌≡◌, ◌++◌, drop}
use Rattle.pd_answers.specs.Shrinks.{moves_to}
use Rattle.pd_shrink.specs.Moves.{moves_in}
use Rattle.pd_shrink.proofs.moves.pair_up.Given as goal

-- the pairs so far, and those of what is left
abbrev pub invariant-loop-i : goal.invariant-loop-i
invariant-loop-i l = moves_in l.moves.items ++ moves_to (drop l.i l.sources) (drop l.i l.free) ≡ moves_to l.sources l.free
