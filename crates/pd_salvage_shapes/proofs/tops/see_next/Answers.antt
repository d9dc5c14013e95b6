use Rattle.pd_salvage_shapes.proofs.SeenLemmas.{sees_again, sees_more}
use Rattle.pd_salvage_shapes.proofs.tops.see_next.Goals as goal

pub returns-in-Some-clause-sees : goal.returns-in-Some-clause-sees
returns-in-Some-clause-sees g c = λ first sees.
    rw c.in_ok-see_again.ensures
    (sees_again (g.D.Device.state c.args.dev.now).held c.args.tops.now c.args.i c.in-Some.k c.args.seen.now.items first c.args.visiting.now
    c.requires.device c.in-Some.ensures.0 c.requires.number c.in-Some.ensures.1 sees)

pub returns-clause-sees : goal.returns-clause-sees
returns-clause-sees g c = λ first sees.
    rw c.in_ok-push.ensures.items
    (sees_more (g.D.Device.state c.args.dev.now).held c.args.tops.now c.args.i c.args.seen.now.items first c.args.visiting.now c.see.new.self c.in_ok-one.one c.requires.device sees
    c.in_ok-one.ensures.sees)
