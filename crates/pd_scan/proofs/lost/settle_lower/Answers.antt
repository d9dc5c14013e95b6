use Rattle.std.proofs.Common.{◌<◌, inl, inr, IfSome, refl, ◌∙◌, subst, arith}
use Rattle.pd_kinds.proofs.ResultLemmas.{if_both}
use Rattle.pd_settle.specs.Settled.{is_fit, AreFit, AreSettledIn}
use Rattle.pd_scan.proofs.LostLemmas.{pool_shares, devices_role, details_role, settled_trees, judged_fit, judged_root}
use Rattle.pd_scan.proofs.lost.settle_lower.Goals as goal

pub judge_each-requires-clause-share : goal.judge_each-requires-clause-share
judge_each-requires-clause-share g c = pool_shares g.F.Format.ROLES (g.F.Format.graph c.args.format.now) c.requires.pool

pub returns-clause-devices : goal.returns-clause-devices
returns-clause-devices g c =
    let graph = g.F.Format.graph c.args.format.now in
    let lawful = g.met.F.Format.lawful c.args.format.now in
    let roles = g.met.F.Format.roles c.args.format.now in
    let number = c.requires.pool.roles_number in
    let known : 3 < graph.roles = omega arith in
    let fit = c.judge_each.new.fit in
    if_both (g.D.Device.state c.args.dev.now).held
    (λ image judged more.
    settled_trees graph image 3 8 (is_fit fit 3) c.settle_role.new.notes lawful known (judged_root graph image fit judged g.F.Format.ROLES 3 c.requires.pool (inl refl))
    (devices_role g.F.Format.ROLES graph c.requires.pool) (c.in_ok-settle_role.ensures.number ∙ c.requires.devices)
    (more (judged_fit graph image fit judged 3 (inl refl))))
    c.in_ok-judge_each.ensures.judged
    (subst (λ o. IfSome o (λ image. AreFit graph image 3 (is_fit fit 3) → AreSettledIn graph image 3 (is_fit fit 3) c.settle_role.new.notes))
    c.in_ok-judge_each.ensures.kept.held c.in_ok-settle_role.ensures.settled)

pub returns-clause-details : goal.returns-clause-details
returns-clause-details g c =
    let graph = g.F.Format.graph c.args.format.now in
    let lawful = g.met.F.Format.lawful c.args.format.now in
    let roles = g.met.F.Format.roles c.args.format.now in
    let number = c.requires.pool.roles_number in
    let known : 4 < graph.roles = omega arith in
    let fit = c.judge_each.new.fit in
    if_both (g.D.Device.state c.args.dev.now).held
    (λ image judged more.
    settled_trees graph image 4 24 (is_fit fit 4) c.settle_role-2.new.notes lawful known (judged_root graph image fit judged g.F.Format.ROLES 4 c.requires.pool (inr refl))
    (details_role g.F.Format.ROLES graph c.requires.pool) (c.in_ok-settle_role-2.ensures.number ∙ c.requires.details)
    (more (judged_fit graph image fit judged 4 (inr refl))))
    c.in_ok-judge_each.ensures.judged
    (subst (λ o. IfSome o (λ image. AreFit graph image 4 (is_fit fit 4) → AreSettledIn graph image 4 (is_fit fit 4) c.settle_role-2.new.notes))
    (c.in_ok-settle_role.ensures.kept.held ∙ c.in_ok-judge_each.ensures.kept.held) c.in_ok-settle_role-2.ensures.settled)
