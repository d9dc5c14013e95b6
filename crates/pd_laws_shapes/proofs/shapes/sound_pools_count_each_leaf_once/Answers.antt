use Rattle.pd_kinds.specs.declared.kind.Kind.TheVariants.{Thin}
use Rattle.pd_kinds.specs.declared.kind.Stage.TheVariants.{Whole}
use Rattle.pd_kinds.specs.Graph.{block_at}
use Rattle.pd_kinds.specs.ThinFormat.{thin_graph}
use Rattle.pd_kinds.specs.ThinFormat.{thin_fields}
use Rattle.pd_laws_shapes.proofs.LeafCounts.{counted_as_told}
use Rattle.pd_laws_shapes.proofs.shapes.sound_pools_count_each_leaf_once.Goals as goal

pub returns : goal.returns
returns c = λ image is none unheld few d.
    let graph = thin_graph (block_at image 0) in
    let lawful = c.trees_are_in_order.ensures.lawful Thin Whole image none in
    let ordered = c.trees_are_in_order.ensures.in_order Thin Whole image tt none in
    let roots = c.superblocks_lead_to_reached_roots.ensures.thin Whole image tt none in
    let trees = c.formats_have_trees.ensures.thin (block_at image 0) in
    counted_as_told image ordered lawful (c.reached_by_paths.ensures.super_block graph image) trees.devices roots.devices
    (c.entries_lead_to_reached_pairs.ensures graph image (thin_fields (block_at image 0)).mapping_root 2 8 3 (λ v. v) trees.devices lawful ordered roots.devices)
    unheld few d
