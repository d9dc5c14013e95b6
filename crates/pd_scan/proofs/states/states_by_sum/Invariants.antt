use Rattle.std.proofs.Common.{◌-◌}
use Rattle.std.specs.List.{range_with_len}
use Rattle.pd_scan.specs.Pairs.{AreStatesOf}
use Rattle.pd_scan.proofs.states.states_by_sum.Given as goal

-- the states of the mapping trees that were passed, from the last one down
abbrev pub invariant-loop-passed : goal.invariant-loop-passed
invariant-loop-passed l = AreStatesOf l.trees (range_with_len (l.nr - l.passed) l.passed) l.found
