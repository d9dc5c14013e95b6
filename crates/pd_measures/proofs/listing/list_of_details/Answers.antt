use Rattle.std.proofs.Common.{◌≡◌, map, ◌∙◌, ap, arith}
use Rattle.pd_kinds.specs.Whole.{details_entries}
use Rattle.pd_laid.specs.FoundRoots.{lost_graph}
use Rattle.pd_value.specs.declared.thin.Details.{Details}
use Rattle.pd_tree.specs.Cursor.{cursor_items}
use Rattle.pd_tree.specs.Cursor.{item_of}
use Rattle.pd_measures.specs.Counts.{counts_of_details}
use Rattle.pd_measures.specs.Counts.{details_of, key_and_told}
use Rattle.pd_measures.proofs.ListLemmas.{details_listed, ok_some}
use Rattle.pd_measures.proofs.SoundLemmas.{lost_details, lost_lawful, lost_roles, root_inside}
use Rattle.pd_measures.proofs.listing.list_of_details.Goals as goal

pub returns-clause-list : goal.returns-clause-list
unfolding counts_of_details
returns-clause-list g c =
    ok_some c.gather.result (g.D.Device.state c.args.dev.now).held _ _ (λ list image listed data_blocks sound.
    let graph = lost_graph image data_blocks in
    let details = c.args.details in
    let lawful = lost_lawful c.thin_format_is_lawful.ensures.table image data_blocks details (root_inside graph image 4 details sound) in
    let roles = lost_roles image data_blocks in
    let entries = details_entries graph image details in
    let given : cursor_items 24 details_of image c.restart.new.self ≡ map (item_of details_of) entries =
    c.restart.ensures.items image
    ∙ c.cursors_give_entries.ensures.entries graph image details 4 (lost_details image data_blocks) (c.found_trees_are_sound.ensures graph image 4 details lawful (omega arith) sound) in
    listed ∙ (ap (map (key_and_told (λ (d : Details). d.mapped))) given ∙ details_listed entries)) c.gather.ensures.list
