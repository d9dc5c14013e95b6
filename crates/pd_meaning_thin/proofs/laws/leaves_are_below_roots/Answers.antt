use Rattle.std.proofs.Common.{◌≡◌}
use Rattle.pd_kinds.specs.declared.kind.Kind.TheVariants.{Thin}
use Rattle.pd_kinds.specs.declared.kind.Stage.TheVariants.{Whole}
use Rattle.pd_kinds.specs.Graph.{block_at}
use Rattle.pd_kinds.specs.ThinFormat.{thin_graph}
use Rattle.pd_kinds.specs.ThinFormat.{thin_fields}
use Rattle.pd_laid.specs.Shape.{leaf_blocks}
use Rattle.pd_meaning_thin.specs.Walk.{IsProperTree, leaves_below}
use Rattle.pd_meaning_thin.proofs.RootLemmas.{each_root, leaves_are, nr_is, roots_are, tree_is}
use Rattle.pd_meaning_thin.proofs.laws.leaves_are_below_roots.Goals as goal

pub returns-clause-roots : goal.returns-clause-roots
returns-clause-roots c = λ image none.
    let trees = c.formats_have_trees.ensures.thin (block_at image 0) in
    let roots = c.superblocks_lead_to_reached_roots.ensures.thin Whole image tt none in
    roots_are image trees.devices.is_role (c.reached_trees_are_sound.ensures.without_faults Thin Whole image (thin_fields (block_at image 0)).mapping_root 2 tt none roots.devices)

pub returns-clause-leaves : goal.returns-clause-leaves
returns-clause-leaves c = λ image none.
    let graph = thin_graph (block_at image 0) in
    let trees = c.formats_have_trees.ensures.thin (block_at image 0) in
    let roots = c.superblocks_lead_to_reached_roots.ensures.thin Whole image tt none in
    let named = c.entries_lead_to_reached_pairs.ensures graph image (thin_fields (block_at image 0)).mapping_root 2 8 3 (λ v. v) trees.devices
    (c.trees_are_in_order.ensures.lawful Thin Whole image none) (c.trees_are_in_order.ensures.in_order Thin Whole image tt none) roots.devices in
    each_root (λ root. leaf_blocks graph image root ≡ leaves_below image 63 root) image
    (λ b reached. leaves_are graph image trees.mappings b (c.reached_trees_are_sound.ensures.without_faults Thin Whole image b 3 tt none reached)) named

pub returns-clause-trees : goal.returns-clause-trees
returns-clause-trees c = λ image none.
    let graph = thin_graph (block_at image 0) in
    let lawful = c.trees_are_in_order.ensures.lawful Thin Whole image none in
    let trees = c.formats_have_trees.ensures.thin (block_at image 0) in
    let roots = c.superblocks_lead_to_reached_roots.ensures.thin Whole image tt none in
    let named = c.entries_lead_to_reached_pairs.ensures graph image (thin_fields (block_at image 0)).mapping_root 2 8 3 (λ v. v) trees.devices
    lawful (c.trees_are_in_order.ensures.in_order Thin Whole image tt none) roots.devices in
    each_root (IsProperTree image (thin_fields (block_at image 0)).meta_map.blocks) image
    (λ b reached. rw (nr_is (block_at image 0)) at
    (tree_is graph image trees.mappings lawful (c.reached_by_paths.ensures.super_block graph image) b reached (c.reached_trees_are_sound.ensures.without_faults Thin Whole image b 3 tt none reached))) named
