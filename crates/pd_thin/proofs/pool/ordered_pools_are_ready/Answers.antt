use Rattle.std.proofs.Common.{◌≡◌, ℕ, List, [], ◌∷◌, refl, subst}
use Rattle.pd_kinds.specs.declared.kind.Kind.TheVariants.{Thin}
use Rattle.pd_kinds.specs.declared.kind.Stage.TheVariants.{Order}
use Rattle.pd_kinds.specs.Graph.{Edge}
use Rattle.pd_kinds.specs.Graph.{block_at}
use Rattle.pd_kinds.specs.Stages.{IsReached}
use Rattle.pd_kinds.specs.ThinFormat.{thin_fields}
use Rattle.pd_kinds.specs.ThinFormat.{thin_graph}
use Rattle.pd_kinds.proofs.KindLemmas.{held_edges_are, super_edges}
use Rattle.pd_check.specs.Known.{IsKnown}
use Rattle.pd_tree.proofs.SearchableLemmas.{at_optional}
use Rattle.pd_thin.specs.Pool.{IsReady}
use Rattle.pd_thin.proofs.pool.ordered_pools_are_ready.Goals as goal

pub returns : goal.returns
returns c = λ first image audit ordered.
    subst (λ (f : List ℕ). IsKnown (thin_graph f) image audit → IsReady f image audit) ordered.first_block
    (λ known.
    let block = block_at image 0 in
    let fields = thin_fields block in
    let graph = thin_graph block in
    let To = λ (e : Edge). IsReached graph image e.block e.role in
    let in_order = c.trees_are_in_order.ensures.in_order Thin Order image tt ordered.none in
    let start = c.edges_lead_to_reached_pairs.ensures.start graph image known.lawful in
    let edges = rw (super_edges block (in_order.well_formed 0 0 start)) at (c.edges_lead_to_reached_pairs.ensures.edges graph image 0 0 known.lawful start) in
    let rest : List Edge = record { role = 2; block = fields.mapping_root } ∷ record { role = 4; block = fields.details_root } ∷ record { role = 5; block = fields.data_map.bitmap_root }
    ∷ record { role = 7; block = fields.data_map.overflow_root } ∷ record { role = 8; block = fields.meta_map.bitmap_root } ∷ record { role = 10; block = fields.meta_map.overflow_root } ∷ [] in
    let held : (fields.held_root ≡ 0 → ⊥) → IsReached graph image fields.held_root 1 = at_optional To 1 fields.held_root rest edges in
    record {
      first_block = refl;
      pool = record { known = known; ordered = in_order; trees = c.formats_have_trees.ensures.thin block };
      start = start;
      roots = c.superblocks_lead_to_reached_roots.ensures.thin Order image tt ordered.none;
      held = held;
      held_roots = λ some.
          let all = rw (held_edges_are block (block_at image fields.held_root) fields.held_root (in_order.well_formed fields.held_root 1 (held some)))
          at (c.edges_lead_to_reached_pairs.ensures.edges graph image fields.held_root 1 known.lawful (held some)) in
          record { mapping = all.0; details = all.1.0 };
    })
    ordered.known
