use Rattle.std.specs.List.{flat_map}
use Rattle.pd_grammar.specs.Texts.{text_of_lines}
use Rattle.pd_grammar.specs.ThinText.{thin}
use Rattle.pd_meaning_thin.specs.Runs.{rows_left}
use Rattle.pd_meaning_thin.specs.Walk.{shared_blocks}
use Rattle.pd_pool_dumps.specs.SharedLines.{sharing_lines}
use Rattle.pd_query.proofs.QueryLemmas.{first_lost, lost_with, some_then}
use Rattle.pd_pool_dumps.proofs.SharedTextLemmas.{leaves_first}
use Rattle.pd_pool_dumps.proofs.shared_lines.add_body.Goals as goal

pub returns-in_err-add_leaves-clause-prints : goal.returns-in_err-add_leaves-clause-prints
returns-in_err-add_leaves-clause-prints g c =
    let held = (g.D.Device.state c.args.dev.now).held in
    let sharing = c.args.sharing.now in
    let shared = shared_blocks sharing.shared in
    lost_with held c.from_residual.result c.from_residual.ensures.0
    (first_lost held (λ image. text_of_lines thin (flat_map (sharing_lines shared image) (rows_left image sharing.devices)))
    (λ image. leaves_first shared image (rows_left image sharing.devices)) c.in_err-add_leaves.ensures.prints)

pub returns-clause-prints : goal.returns-clause-prints
returns-clause-prints g c =
    let held = (g.D.Device.state c.args.dev.now).held in
    let sharing = c.args.sharing.now in
    let shared = shared_blocks sharing.shared in
    some_then held c.add_sharing_devices.result
    (λ image. leaves_first shared image (rows_left image sharing.devices)) c.in_ok-add_leaves.ensures.prints
    (rw c.in_ok-add_leaves.ensures.kept.held at c.add_sharing_devices.ensures.prints)
