use Rattle.std.proofs.Common.{◌∙◌}
use Rattle.pd_measures.specs.Measured.{measure_at}
use Rattle.pd_measures.proofs.NodeLemmas.{inner_more}
use Rattle.pd_measures.proofs.measures.measure_inner.Goals as goal

pub loop-i-preserved : goal.loop-i-preserved
loop-i-preserved g c =
    c.join-sum.ensures
    ∙ inner_more (measure_at c.args.measures.now) c.args.block.now.0 c.loop-i.i c.loop-i.sum c.get.result c.child.result c.loop-i.invariant c.get.ensures c.child.ensures
