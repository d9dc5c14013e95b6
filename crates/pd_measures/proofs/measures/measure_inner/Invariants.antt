use Rattle.std.proofs.Common.{◌≡◌, map}
use Rattle.std.specs.List.{range_with_len}
use Rattle.pd_kinds.specs.Node.{child_at}
use Rattle.pd_measures.specs.Measured.{joined, no_measure}
use Rattle.pd_measures.specs.Measured.{measure_at}
use Rattle.pd_measures.proofs.measures.measure_inner.Given as goal

abbrev pub invariant-loop-i : goal.invariant-loop-i
invariant-loop-i g l = l.sum ≡ joined (measure_at l.measures) no_measure (map (child_at l.block.0) (range_with_len 0 l.i))
