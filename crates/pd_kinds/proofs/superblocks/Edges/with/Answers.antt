use Rattle.std.proofs.Common.{arith}
use Rattle.pd_kinds.proofs.SuperLemmas.{length-down, down_more}
use Rattle.pd_kinds.proofs.superblocks.Edges.with.Goals as goal

pub returns : goal.returns
returns c =
    let few = rw (← c.self.view_is) at c.requires in
    rw (← c.self.view_is)
    (down_more c.self.inside.items c.self.inside.count (c.args.role, c.args.block)
    (omega (arith, length-down c.self.inside.items c.self.inside.count, few)))
