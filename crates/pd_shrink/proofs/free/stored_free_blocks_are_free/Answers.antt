use Rattle.std.proofs.Common.{◌∙◌}
use Rattle.pd_kinds.specs.declared.kind.Kind.TheVariants.{Thin}
use Rattle.pd_kinds.specs.declared.kind.Stage.TheVariants.{Counts}
use Rattle.pd_kinds.specs.Graph.{block_at}
use Rattle.pd_kinds.specs.ThinFormat.{thin_graph}
use Rattle.pd_kinds.specs.ThinFormat.{thin_fields}
use Rattle.pd_shrink.proofs.GatherLemmas.{free_same, index_keys}
use Rattle.pd_shrink.proofs.free.stored_free_blocks_are_free.Goals as goal

pub returns-clause-index : goal.returns-clause-index
returns-clause-index c = λ image none.
    let root = (thin_fields (block_at image 0)).data_map.bitmap_root in
    let index = (c.superblocks_lead_to_reached_roots.ensures.thin Counts image tt none).data_index in
    c.index_trees_name_bitmaps.ensures.keys (thin_graph (block_at image 0)) image root 5 (c.formats_have_trees.ensures.thin (block_at image 0)).data_index.is_role
    (c.reached_trees_are_sound.ensures.without_faults Thin Counts image root 5 tt none index)
    ∙ index_keys image ((c.faults_are_none_where_clean.ensures Thin image).0 none) index.block

pub returns-clause-overflow : goal.returns-clause-overflow
returns-clause-overflow c = λ image none.
    let root = (thin_fields (block_at image 0)).data_map.overflow_root in
    c.overflow_trees_hold_counts.ensures.searchable (thin_graph (block_at image 0)) image root 7 (c.formats_have_trees.ensures.thin (block_at image 0)).data_overflow
    (c.reached_trees_are_sound.ensures.without_faults Thin Counts image root 7 tt none (c.superblocks_lead_to_reached_roots.ensures.thin Counts image tt none).data_overflow)

pub returns-clause-free : goal.returns-clause-free
returns-clause-free c = λ image end none within.
    let graph = thin_graph (block_at image 0) in
    let map = (thin_fields (block_at image 0)).data_map in
    let roots = c.superblocks_lead_to_reached_roots.ensures.thin Counts image tt none in
    let trees = c.formats_have_trees.ensures.thin (block_at image 0) in
    free_same image end ((c.faults_are_none_where_clean.ensures Thin image).0 none) within
    (λ d overflow. c.index_trees_name_bitmaps.ensures.stored graph image map.bitmap_root 5 d overflow trees.data_index.is_role
    (c.reached_trees_are_sound.ensures.without_faults Thin Counts image map.bitmap_root 5 tt none roots.data_index))
    (c.overflow_trees_hold_counts.ensures.entries graph image map.overflow_root 7 trees.data_overflow
    (c.reached_trees_are_sound.ensures.without_faults Thin Counts image map.overflow_root 7 tt none roots.data_overflow))
