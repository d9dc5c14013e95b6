use Rattle.pd_kinds.specs.declared.kind.Kind.TheVariants.{Cache}
use Rattle.pd_kinds.specs.Graph.{block_at}
use Rattle.pd_kinds.specs.CacheFormat.{cache_graph}
use Rattle.pd_laws_changed.proofs.settled.caches_in_order_are_known.Goals as goal

pub returns : goal.returns
returns c = λ until image looks none.
    let graph = cache_graph (block_at image 0) in
    let lawful = c.trees_are_in_order.ensures.lawful Cache until image none in
    let ordered = c.trees_are_in_order.ensures.in_order Cache until image looks none in
    record {
      lawful = lawful;
      ordered = ordered;
      roots = c.superblocks_lead_to_reached_roots.ensures.cache until image looks none;
      trees = c.formats_have_trees.ensures.cache (block_at image 0);
      edges = λ b role. c.edges_lead_to_reached_pairs.ensures.edges graph image b role lawful;
      named = λ b role next to. c.entries_lead_to_reached_pairs.ensures graph image b role 8 next (λ v. v) to lawful ordered;
    }
