use Rattle.std.proofs.Common.{subst}
use Rattle.pd_kinds.proofs.ResultLemmas.{if_any}
use Rattle.pd_salvage_shapes.specs.Visiting.{GoesOn, is_undamaged_inner}
use Rattle.pd_salvage_shapes.proofs.TreeLemmas.{tree_met}
use Rattle.pd_salvage_shapes.proofs.visiting.Visiting.meet_tree.Goals as goal

pub returns-clause-met : goal.returns-clause-met
returns-clause-met g c =
    tree_met (g.D.Device.state c.args.dev.now).held c.args.root c.args.self.now c.begin.new.self c.meet.new.self c.go_on.new.self c.begin.ensures c.in_ok-meet.ensures.meets
    (subst (λ o. GoesOn o c.meet.new.self c.go_on.new.self) c.in_ok-meet.ensures.kept.held c.in_ok-go_on.ensures.met)

pub meet-requires-clause-knows : goal.meet-requires-clause-knows
meet-requires-clause-knows g c = if_any (g.D.Device.state c.args.dev.now).held (c.begin.ensures.knows is_undamaged_inner)
