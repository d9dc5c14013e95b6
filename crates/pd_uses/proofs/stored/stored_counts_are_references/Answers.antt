use Rattle.std.proofs.Common.{List, ◌∙◌, subst, sym}
use Rattle.pd_kinds.specs.declared.kind.Kind.TheVariants.{Thin}
use Rattle.pd_kinds.specs.declared.kind.Stage.TheVariants.{Counts}
use Rattle.pd_kinds.specs.declared.rule.Fault.{Fault}
use Rattle.pd_kinds.specs.Graph.{block_at}
use Rattle.pd_kinds.specs.Leaks.{AreLeaks}
use Rattle.pd_kinds.specs.ThinFormat.{thin_fields, thin_graph}
use Rattle.pd_uses.proofs.StoredLemmas.{free_same, index_keys}
use Rattle.pd_uses.proofs.stored.stored_counts_are_references.Goals as goal

pub returns-clause-whole : goal.returns-clause-whole
returns-clause-whole c = λ image none. c.leaks_alone_lose_nothing.ensures.sound Thin image (subst (λ (found : List Fault). AreLeaks found) (sym none) tt)

pub returns-clause-overflow : goal.returns-clause-overflow
returns-clause-overflow c = λ image none.
    let root = (thin_fields (block_at image 0)).data_map.overflow_root in
    c.overflow_trees_hold_counts.ensures.searchable (thin_graph (block_at image 0)) image root 7 (c.formats_have_trees.ensures.thin (block_at image 0)).data_overflow
    (c.reached_trees_are_sound.ensures.without_faults Thin Counts image root 7 tt none (c.superblocks_lead_to_reached_roots.ensures.thin Counts image tt none).data_overflow)

pub returns-clause-unused : goal.returns-clause-unused
returns-clause-unused c = λ image b none within.
    let graph = thin_graph (block_at image 0) in
    let map = (thin_fields (block_at image 0)).data_map in
    let roots = c.superblocks_lead_to_reached_roots.ensures.thin Counts image tt none in
    let trees = c.formats_have_trees.ensures.thin (block_at image 0) in
    let clean = (c.faults_are_none_where_clean.ensures Thin image).0 none in
    let index = c.reached_trees_are_sound.ensures.without_faults Thin Counts image map.bitmap_root 5 tt none roots.data_index in
    free_same image b clean within
    (c.index_trees_name_bitmaps.ensures.keys graph image map.bitmap_root 5 trees.data_index.is_role index ∙ index_keys image clean roots.data_index.block)
    (λ overflow. c.index_trees_name_bitmaps.ensures.stored graph image map.bitmap_root 5 b overflow trees.data_index.is_role index)
    (c.overflow_trees_hold_counts.ensures.entries graph image map.overflow_root 7 trees.data_overflow
    (c.reached_trees_are_sound.ensures.without_faults Thin Counts image map.overflow_root 7 tt none roots.data_overflow))
