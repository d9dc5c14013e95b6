use Rattle.std.proofs.Common.{None, inr, refl, sym, append-nil}
use Rattle.pd_draft.specs.DraftState.{draft_state}
use Rattle.pd_build.proofs.TreeLemmas.{grow, order_takes}
use Rattle.pd_build.proofs.build.Builder.put.Goals as goal

pub invariant_of-self : goal.invariant_of-self
invariant_of-self g c =
    let low = rw (← c.self.view_is) at c.requires.low in
    order_takes None c.self.inside.upper c.self.inside.upper (c.hold.ensures.held c.if-hold.true (draft_state c.args.draft.now) c.requires.closed) c.self.invariant low (inr refl)

pub returns-then-hold-clause-grows : goal.returns-then-hold-clause-grows
returns-then-hold-clause-grows g c =
    rw (← c.self.view_is)
    (grow (record { leaves = c.self.inside.leaves; heads = c.self.inside.upper }) (record { leaves = c.hold.new.self; heads = c.self.inside.upper })
    (c.hold.ensures.held c.if-hold.true (draft_state c.args.draft.now) c.requires.closed) (sym (append-nil c.self.inside.upper)) (rw (← c.self.view_is) at c.requires.more))
