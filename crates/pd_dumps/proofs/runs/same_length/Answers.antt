use Rattle.std.proofs.Common.{sym, ◌∙◌}
use Rattle.pd_dumps.proofs.EraLemmas.{value_more}
use Rattle.pd_dumps.proofs.runs.same_length.Goals as goal

pub loop-i-preserved : goal.loop-i-preserved
loop-i-preserved g c =
    value_more (g.R.RunKind.counts c.args.kind.now) c.args.eras.now c.args.value c.loop-i.i c.loop-i-test.true (sym c.value.ensures ∙ c.if-value.false) c.loop-i.invariant
