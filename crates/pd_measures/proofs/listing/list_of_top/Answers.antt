use Rattle.std.proofs.Common.{◌≡◌, map, ◌∙◌, ap, arith}
use Rattle.pd_kinds.specs.Whole.{top_entries}
use Rattle.pd_laid.specs.FoundRoots.{lost_graph}
use Rattle.pd_value.specs.declared.thin.Root.{Root}
use Rattle.pd_tree.specs.Cursor.{cursor_items}
use Rattle.pd_tree.specs.Cursor.{item_of, root_of}
use Rattle.pd_measures.specs.Counts.{counts_of_top, mappings_below}
use Rattle.pd_measures.specs.Measured.{below_root}
use Rattle.pd_measures.specs.Counts.{key_and_told}
use Rattle.pd_measures.proofs.ListLemmas.{ok_some, tops_listed}
use Rattle.pd_measures.proofs.SoundLemmas.{lost_lawful, lost_roles, lost_tops, root_inside}
use Rattle.pd_measures.proofs.listing.list_of_top.Goals as goal

pub returns-clause-list : goal.returns-clause-list
unfolding counts_of_top
returns-clause-list g c =
    ok_some c.gather.result (g.D.Device.state c.args.dev.now).held _ _ (λ list image listed data_blocks sound told.
    let graph = lost_graph image data_blocks in
    let top = c.args.top in
    let below = below_root c.args.notes.now in
    let lawful = lost_lawful c.thin_format_is_lawful.ensures.table image data_blocks top (root_inside graph image 2 top sound) in
    let roles = lost_roles image data_blocks in
    let tops = top_entries graph image top in
    let given : cursor_items 8 root_of image c.restart.new.self ≡ map (item_of root_of) tops =
    c.restart.ensures.items image
    ∙ c.cursors_give_entries.ensures.entries graph image top 2 (lost_tops image data_blocks) (c.found_trees_are_sound.ensures graph image 2 top lawful (omega arith) sound) in
    listed ∙ (ap (map (key_and_told (λ (root : Root). below root.0))) given ∙ tops_listed below (mappings_below graph image) tops told)) c.gather.ensures.list
