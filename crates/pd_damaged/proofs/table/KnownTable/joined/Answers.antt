use Rattle.std.proofs.Common.{◌∙◌, ap}
use Rattle.pd_kinds.specs.Node.{child_at}
use Rattle.pd_damaged.specs.Known.{kept_at}
use Rattle.pd_damaged.proofs.KeptLemmas.{joined_more}
use Rattle.pd_damaged.proofs.table.KnownTable.joined.Goals as goal

pub loop-i-preserved : goal.loop-i-preserved
loop-i-preserved c =
    c.join-sum.ensures
    ∙ joined_more (λ i. kept_at c.args.self.now (child_at c.args.block.now.0 i)) c.loop-i.i c.loop-i.sum c.kept.result c.loop-i.invariant
    (c.kept.ensures ∙ ap (kept_at c.args.self.now) c.child.ensures)
