use Rattle.pd_check.proofs.ReadLemmas.{few}
use Rattle.pd_check.proofs.counts.counts_read_no_more_than_nodes.Goals as goal

pub returns : goal.returns
returns c =
    few c.nodes_of_reached_trees_are_reached_once.ensures
    c.trees_and_indices_name_blocks.ensures.entries c.trees_and_indices_name_blocks.ensures.bitmaps
    c.bitmaps_are_named_once.ensures
    c.trees_are_in_order.ensures.in_order
    c.formats_have_trees.ensures.thin c.formats_have_trees.ensures.cache c.formats_have_trees.ensures.era
    c.superblocks_lead_to_reached_roots.ensures.thin c.superblocks_lead_to_reached_roots.ensures.cache c.superblocks_lead_to_reached_roots.ensures.era
    c.reached_blocks_are_no_more_than_nodes.ensures
