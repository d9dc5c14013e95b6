use Rattle.std.proofs.Common.{◌≡◌, map}
use Rattle.std.specs.List.{range_with_len}
use Rattle.pd_measures.specs.Measured.{entry_of}
use Rattle.pd_measures.specs.Measured.{measured}
use Rattle.pd_measures.proofs.measures.measure_leaf.Given as goal

abbrev pub invariant-loop-i : goal.invariant-loop-i
invariant-loop-i g l = l.sum ≡ measured (g.G.Gauge.of l.gauge) (map (entry_of g.G.Gauge.SIZE l.block.0) (range_with_len 0 l.i))
