use Rattle.std.proofs.Common.{ℕ, List, subst}
use Rattle.pd_kinds.specs.declared.kind.Kind.TheVariants.{Cache}
use Rattle.pd_kinds.specs.declared.kind.Stage.TheVariants.{Order}
use Rattle.pd_kinds.specs.CacheFormat.{cache_fields, cache_graph}
use Rattle.pd_kinds.specs.Graph.{block_at}
use Rattle.pd_check.specs.Known.{IsKnown}
use Rattle.pd_cache.specs.Whole.{IsReady}
use Rattle.pd_cache.proofs.check.ordered_caches_are_ready.Goals as goal

pub returns : goal.returns
returns c = λ first image audit ordered.
    subst (λ (f : List ℕ). IsKnown (cache_graph f) image audit → IsReady (cache_graph f) image audit (cache_fields f)) ordered.first_block
    (λ known. record {
      cache = record {
        known = known;
        ordered = c.trees_are_in_order.ensures.in_order Cache Order image tt ordered.none;
        trees = c.formats_have_trees.ensures.cache (block_at image 0);
      };
      roots = c.superblocks_lead_to_reached_roots.ensures.cache Order image tt ordered.none;
    })
    ordered.known
