use Rattle.std.proofs.Common.{ℕ, List, subst}
use Rattle.pd_kinds.specs.declared.kind.Kind.TheVariants.{Era}
use Rattle.pd_kinds.specs.declared.kind.Stage.TheVariants.{Order}
use Rattle.pd_kinds.specs.EraFormat.{era_fields, era_graph}
use Rattle.pd_kinds.specs.Graph.{block_at}
use Rattle.pd_check.specs.Known.{IsKnown}
use Rattle.pd_era.specs.Whole.{IsReady}
use Rattle.pd_era.proofs.WholeLemmas.{snap_reached}
use Rattle.pd_era.proofs.check.ordered_eras_are_ready.Goals as goal

pub returns : goal.returns
returns c = λ first image audit ordered.
    subst (λ (f : List ℕ). IsKnown (era_graph f) image audit → IsReady (era_graph f) image audit (era_fields f)) ordered.first_block
    (λ known.
    let block = block_at image 0 in
    let in_order = c.trees_are_in_order.ensures.in_order Era Order image tt ordered.none in
    record {
      era = record {
        known = known;
        ordered = in_order;
        trees = c.formats_have_trees.ensures.era block;
      };
      roots = c.superblocks_lead_to_reached_roots.ensures.era Order image tt ordered.none;
      snap = snap_reached block image in_order (c.edges_lead_to_reached_pairs.ensures.start (era_graph block) image known.lawful)
          (λ b role reached. c.edges_lead_to_reached_pairs.ensures.edges (era_graph block) image b role known.lawful reached);
    })
    ordered.known
