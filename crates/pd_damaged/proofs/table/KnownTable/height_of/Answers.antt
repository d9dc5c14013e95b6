use Rattle.std.proofs.Common.{◌∙◌, ap}
use Rattle.pd_damaged.specs.Known.{known_at}
use Rattle.pd_damaged.proofs.KnownLemmas.{height_more}
use Rattle.pd_damaged.proofs.table.KnownTable.height_of.Goals as goal

pub loop-i-preserved : goal.loop-i-preserved
loop-i-preserved c =
    height_more c.args.self.now c.args.block.now.0 c.loop-i.i c.loop-i.height c.in-Some.over c.known.result
    (c.known.ensures ∙ ap (known_at c.args.self.now) c.child.ensures) c.loop-i.invariant c.in-Some.ensures.over
