use Rattle.std.proofs.Common.{length, sym, subst}
use Rattle.pd_count.specs.Counted.{Grouped, IsPlace}
use Rattle.pd_count.proofs.PlaceLemmas.{puts_in_made}
use Rattle.pd_count.proofs.group.Group.set.Goals as goal

pub returns-clause-put : goal.returns-clause-put
returns-clause-put c =
    let stands = subst (λ (g : Grouped). IsPlace g.made (length g.chunks) c.args.i c.in-Some.place) (sym c.self.view_is) c.in-Some.ensures in
    rw (← c.self.view_is)
    (puts_in_made c.self.inside.made c.self.inside.chunks.items c.args.i c.args.at c.args.number c.in-Some.place c.index_mut.result.now c.set.new.self stands
    c.index_mut.ensures.value c.in_ok-set.ensures.put)
