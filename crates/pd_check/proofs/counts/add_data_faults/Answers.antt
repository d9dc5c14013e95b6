use Rattle.std.proofs.Common.{◌∙◌, sym}
use Rattle.pd_check.proofs.CountLemmas.{data_number, data_told, on_ok}
use Rattle.pd_check.proofs.counts.add_data_faults.Goals as goal

pub compare_data-requires-clause-number : goal.compare_data-requires-clause-number
compare_data-requires-clause-number g c =
    data_number g.M.Metadata.kind c.args.first.now.0 c.args.space.now c.requires.space ∙ sym (c.in_ok-counts.ensures.size ∙ c.requires.size)

pub returns-clause-added : goal.returns-clause-added
returns-clause-added g c = on_ok c.compare_data.result
    (λ adds.
    data_told c.formats_have_trees.ensures.thin c.reached_trees_are_sound.ensures.without_faults c.superblocks_lead_to_reached_roots.ensures.thin
    c.overflow_trees_hold_counts.ensures.searchable c.overflow_trees_hold_counts.ensures.entries c.index_trees_name_bitmaps.ensures.keys c.index_trees_name_bitmaps.ensures.stored
    _ g.M.Metadata.kind c.args.first.now.0 c.args.space.now c.args.counter c.in_ok-counts.counts c.args.report.now c.compare_data.new.report c.requires.space c.in_ok-counts.ensures.counted adds)
    c.compare_data.ensures.added
