use Rattle.std.proofs.Common.{◌≡◌, sym, ◌∙◌, arith}
use Rattle.pd_kinds.specs.Node.{entry_count}
use Rattle.pd_measures.proofs.MeasureLemmas.{measured-nil}
use Rattle.pd_measures.proofs.NodeLemmas.{leaf_all, leaf_more}
use Rattle.pd_measures.proofs.measures.measure_leaf.Goals as goal

pub loop-i-init : goal.loop-i-init
loop-i-init g c = c.none-sum.ensures ∙ sym (measured-nil (g.G.Gauge.of c.args.gauge.now))

pub loop-i-preserved : goal.loop-i-preserved
loop-i-preserved g c =
    c.join-sum.ensures
    ∙ leaf_more (g.G.Gauge.of c.args.gauge.now) g.G.Gauge.SIZE c.args.block.now.0 c.loop-i.i c.loop-i.sum c.entry.result c.loop-i.invariant c.entry.ensures

pub returns : goal.returns
returns g c =
    let last : c.loop-i.i ≡ entry_count g.G.Gauge.SIZE c.args.block.now.0 = omega (arith, c.loop-i.auto.i-end, c.loop-i-test.false, c.entries-i-end.ensures) in
    leaf_all (g.G.Gauge.of c.args.gauge.now) g.G.Gauge.SIZE c.args.block.now.0 c.loop-i.i c.loop-i.sum c.loop-i.invariant last
