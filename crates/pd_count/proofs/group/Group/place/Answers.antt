use Rattle.pd_count.proofs.PlaceLemmas.{stands_at}
use Rattle.pd_count.proofs.group.Group.place.Goals as goal

pub returns-then-self-i-eq1 : goal.returns-then-self-i-eq1
returns-then-self-i-eq1 c = rw (← c.self.view_is)
    (stands_at c.self.inside.made c.self.inside.chunks.items c.args.i c.set_below.result c.if-self-i-eq1.true c.set_below.ensures c.requires c.self.invariant)
