use Rattle.pd_kinds.specs.declared.kind.Kind.TheVariants.{Thin}
use Rattle.pd_kinds.specs.Graph.{block_at}
use Rattle.pd_kinds.specs.ThinFormat.{thin_graph}
use Rattle.pd_laws_changed.proofs.alike.pools_in_order_are_known.Goals as goal

pub returns : goal.returns
returns c = λ until image looks none.
    let graph = thin_graph (block_at image 0) in
    let lawful = c.trees_are_in_order.ensures.lawful Thin until image none in
    let ordered = c.trees_are_in_order.ensures.in_order Thin until image looks none in
    record {
      lawful = lawful;
      ordered = ordered;
      roots = c.superblocks_lead_to_reached_roots.ensures.thin until image looks none;
      start = c.edges_lead_to_reached_pairs.ensures.start graph image lawful;
      edges = λ b role. c.edges_lead_to_reached_pairs.ensures.edges graph image b role lawful;
      devices = λ b. c.entries_lead_to_reached_pairs.ensures graph image b 2 8 3 (λ v. v) (c.formats_have_trees.ensures.thin (block_at image 0)).devices lawful ordered;
    }
