use Rattle.std.proofs.Common.{◌<◌, IfSome, ◌∙◌, subst, arith}
use Rattle.pd_kinds.specs.Graph.{block_at}
use Rattle.pd_kinds.proofs.ResultLemmas.{if_both}
use Rattle.pd_settle.specs.Settled.{is_fit, AreFit, AreSettledIn}
use Rattle.pd_scan.specs.Partners.{keeps_roots}
use Rattle.pd_scan.proofs.LostLemmas.{tops_role, settled_trees, top_root, top_fit}
use Rattle.pd_scan.proofs.lost.settle_tops.Goals as goal

pub returns-clause-tops : goal.returns-clause-tops
returns-clause-tops g c =
    let graph = g.F.Format.graph c.args.format.now in
    let contents = g.F.Format.contents c.args.format.now in
    let lawful = g.met.F.Format.lawful c.args.format.now in
    let roles = g.met.F.Format.roles c.args.format.now in
    let number = c.requires.pool.roles_number in
    let known : 2 < graph.roles = omega arith in
    let fit = c.args.fit.now in
    let later = c.leave_out_tops.new.fit in
    if_both (g.D.Device.state c.args.dev.now).held
    (λ image told more judged are.
    settled_trees graph image 2 8 (is_fit later 2) c.settle_role.new.notes lawful known
    (λ b small.
    told b small
    ∙ top_root graph image fit judged g.F.Format.ROLES c.requires.pool lawful known contents (g.met.F.Format.told c.args.format.now) c.args.devices.now c.requires.devices are.roots b small)
    (tops_role g.F.Format.ROLES graph c.requires.pool).is_role (c.in_ok-settle_role.ensures.number ∙ c.requires.tops)
    (more (top_fit graph image fit judged later (λ b. keeps_roots contents c.args.devices.now 2 (block_at image b)) told)))
    c.in_ok-leave_out_tops.ensures.told
    (subst (λ o. IfSome o (λ image. AreFit graph image 2 (is_fit later 2) → AreSettledIn graph image 2 (is_fit later 2) c.settle_role.new.notes))
    c.in_ok-leave_out_tops.ensures.kept.held c.in_ok-settle_role.ensures.settled)
