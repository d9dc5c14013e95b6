use Rattle.std.proofs.Common.{◌∙◌, List, ap, filter}
use Rattle.pd_meaning_thin.specs.declared.devices.DeviceRow.{DeviceRow}
use Rattle.pd_meaning_thin.specs.Runs.{rows_left}
use Rattle.pd_query.proofs.QueryLemmas.{one_told}
use Rattle.pd_uses.specs.Uses.{is_within}
use Rattle.pd_uses.specs.Uses.{rows_uses}
use Rattle.pd_uses.proofs.FoundLemmas.{all_found, right_new}
use Rattle.pd_uses.proofs.descent.find_region.Goals as goal

pub returns-clause-uses : goal.returns-clause-uses
returns-clause-uses g c =
    let region = c.args.region in
    one_told (g.D.Device.state c.args.dev.now).held
    (λ image finds.
    all_found region image (rows_left image c.in_ok-devices.devices) c.in_ok-found.ensures.visits
    (finds (right_new region image c.in_ok-found.found c.in_ok-found.ensures.notes c.in_ok-found.ensures.visits))
    ∙ ap (λ (rows : List DeviceRow). filter (is_within region.first region.end) (rows_uses image rows)) (c.in_ok-devices.ensures.rows image))
    c.in_ok-find_rows.ensures.finds
