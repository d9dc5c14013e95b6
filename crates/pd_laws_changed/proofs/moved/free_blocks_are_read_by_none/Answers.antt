use Rattle.pd_kinds.specs.declared.kind.Kind.TheVariants.{Thin}
use Rattle.pd_kinds.specs.Graph.{block_at}
use Rattle.pd_kinds.specs.ThinFormat.{thin_graph}
use Rattle.pd_kinds.specs.ThinFormat.{thin_fields}
use Rattle.pd_laws_changed.proofs.FreeBlocks.{free_are_free}
use Rattle.pd_laws_changed.proofs.moved.free_blocks_are_read_by_none.Goals as goal

pub returns : goal.returns
returns c = λ until image end looks none.
    let graph = thin_graph (block_at image 0) in
    let lawful = c.trees_are_in_order.ensures.lawful Thin until image none in
    let ordered = c.trees_are_in_order.ensures.in_order Thin until image looks none in
    let roots = c.superblocks_lead_to_reached_roots.ensures.thin until image looks none in
    let trees = c.formats_have_trees.ensures.thin (block_at image 0) in
    free_are_free image ordered
    (c.entries_lead_to_reached_pairs.ensures graph image (thin_fields (block_at image 0)).mapping_root 2 8 3 (λ v. v) trees.devices lawful ordered roots.devices) end
