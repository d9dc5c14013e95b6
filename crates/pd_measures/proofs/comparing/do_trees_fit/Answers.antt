use Rattle.std.proofs.Common.{◌≡◌, ℕ, List, map, ◌∙◌, ap, arith}
use Rattle.pd_kinds.specs.Whole.{top_entries, details_entries}
use Rattle.pd_kinds.proofs.NumberLemmas.{same_test}
use Rattle.pd_laid.specs.FoundRoots.{are_fitting, lost_graph}
use Rattle.pd_value.specs.declared.thin.Root.{Root}
use Rattle.pd_tree.specs.Cursor.{cursor_items}
use Rattle.pd_tree.specs.Cursor.{item_of, root_of}
use Rattle.pd_measures.specs.Counts.{counts_of_details, counts_of_top, mappings_below}
use Rattle.pd_measures.specs.Measured.{below_root}
use Rattle.pd_measures.specs.Counts.{are_one, details_of}
use Rattle.pd_measures.proofs.ListLemmas.{items_by_one, one_by_items}
use Rattle.pd_measures.proofs.ListLemmas.{ok_some}
use Rattle.pd_measures.proofs.SoundLemmas.{lost_details, lost_lawful, lost_roles, lost_tops, root_inside}
use Rattle.pd_measures.proofs.comparing.do_trees_fit.Goals as goal

pub returns-clause-fits : goal.returns-clause-fits
unfolding counts_of_top counts_of_details
returns-clause-fits g c =
    ok_some c.compare.result (g.D.Device.state c.args.dev.now).held _ _ (λ same image one data_blocks first second told.
    let graph = lost_graph image data_blocks in
    let top = c.args.top in
    let details = c.args.details in
    let below = below_root c.args.notes.now in
    let lawful = lost_lawful c.thin_format_is_lawful.ensures.table image data_blocks top (root_inside graph image 2 top first) in
    let roles = lost_roles image data_blocks in
    let tops = top_entries graph image top in
    let entries = details_entries graph image details in
    let ts : cursor_items 8 root_of image c.restart.new.self ≡ map (item_of root_of) tops =
    c.restart.ensures.items image
    ∙ c.cursors_give_entries.ensures.entries graph image top 2 (lost_tops image data_blocks) (c.found_trees_are_sound.ensures graph image 2 top lawful (omega arith) first) in
    let ds : cursor_items 24 details_of image c.restart-2.new.self ≡ map (item_of details_of) entries =
    c.restart-2.ensures.items image
    ∙ c.cursors_give_entries-2.ensures.entries graph image details 4 (lost_details image data_blocks) (c.found_trees_are_sound.ensures graph image 4 details lawful (omega arith) second) in
    let fits = c.fitting_trees_have_one_list.ensures.fitting image data_blocks top details first second in
    one
    ∙ (ap (λ (xs : List (ℕ × Root)). are_one below xs (cursor_items 24 details_of image c.restart-2.new.self)) ts
    ∙ (ap (are_one below (map (item_of root_of) tops)) ds
    ∙ same_test (are_one below (map (item_of root_of) tops) (map (item_of details_of) entries)) (are_fitting graph image top details)
    (λ e. fits.1 (one_by_items below (mappings_below graph image) tops entries told e))
    (λ e. items_by_one below (mappings_below graph image) tops entries told (fits.0 e))))) c.compare.ensures.one
