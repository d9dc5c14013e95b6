use Rattle.std.proofs.Common.{arith, ◌-◌}
use Rattle.pd_kinds.proofs.SuperLemmas.{length-down, down_found}
use Rattle.pd_kinds.proofs.superblocks.Edges.get.Goals as goal

pub returns : goal.returns
returns c =
    let within = rw (← c.self.view_is) at c.requires in
    rw (← c.self.view_is)
    (down_found c.self.inside.items c.self.inside.count c.args.i (c.self.inside.count - 1 - c.args.i)
    (omega (arith, length-down c.self.inside.items c.self.inside.count, within)))
