use Rattle.std.proofs.Common.{◌≡◌, ℕ, false, List, [], ◌∷◌, ◌++◌, refl, ap}
use Rattle.std.specs.List.{AllByRecursion}
use Rattle.pd_kinds.specs.declared.kind.Kind.TheVariants.{Thin, Cache, Era}
use Rattle.pd_kinds.specs.declared.rule.Rule.{Rule}
use Rattle.pd_kinds.specs.Graph.{Edge, optional_edge}
use Rattle.pd_kinds.specs.Graph.{Graph, block_at}
use Rattle.pd_kinds.specs.Stages.{IsReached}
use Rattle.pd_kinds.specs.ThinFormat.{thin_fields}
use Rattle.pd_kinds.specs.ThinFormat.{thin_graph}
use Rattle.pd_kinds.specs.CacheFormat.{CacheFields, cache_fields, cache_graph, cache_layout, cache_super_edges, dirty_edges, has_dirty_bits}
use Rattle.pd_kinds.specs.EraFormat.{era_fields, era_graph, era_layout, era_super_edges}
use Rattle.pd_kinds.proofs.KindLemmas.{super_edges}
use Rattle.pd_tree.proofs.SearchableLemmas.{super_copy_edges, behind_optional, at_optional}
use Rattle.pd_tree.proofs.laws.superblocks_lead_to_reached_roots.Goals as goal

-- a block is reached in the role of an edge
abbrev To : Graph → List (List ℕ) → Edge → Type 0
To graph image e = IsReached graph image e.block e.role

cache_edges : (block : List ℕ) → ((rule : Rule) → (cache_graph block).bad 0 0 block rule ≡ false) → (cache_graph block).edges 0 0 block ≡ cache_super_edges (cache_fields block)
unfolding cache_graph cache_layout
cache_edges block clean = super_copy_edges 12 (cache_fields block).meta_map.blocks 0 (cache_layout (cache_fields block).meta_map.blocks) _ (λ block. cache_super_edges (cache_fields block)) block refl clean

era_edges : (block : List ℕ) → ((rule : Rule) → (era_graph block).bad 0 0 block rule ≡ false) → (era_graph block).edges 0 0 block ≡ era_super_edges (era_fields block)
unfolding era_graph era_layout
era_edges block clean = super_copy_edges 10 (era_fields block).meta_map.blocks 0 (era_layout (era_fields block).meta_map.blocks) _ (λ block. era_super_edges (era_fields block)) block refl clean

-- in version 2 the dirty bits are among the edges
dirty_at : (P : Edge → Type 0) (fields : CacheFields) → fields.version ≡ 2 → AllByRecursion P (dirty_edges fields) → P (record { role = 10; block = fields.dirty_root })
dirty_at P fields two all = (rw (ap has_dirty_bits two) at all).0

pub returns-clause-thin : goal.returns-clause-thin
returns-clause-thin c = λ until image looks none.
    let block = block_at image 0 in
    let fields = thin_fields block in
    let graph = thin_graph block in
    let lawful = c.trees_are_in_order.ensures.lawful Thin until image none in
    let ordered = c.trees_are_in_order.ensures.in_order Thin until image looks none in
    let start = c.edges_lead_to_reached_pairs.ensures.start graph image lawful in
    let all = rw (super_edges block (ordered.well_formed 0 0 start)) at (c.edges_lead_to_reached_pairs.ensures.edges graph image 0 0 lawful start) in
    let roots = behind_optional (To graph image) 1 fields.held_root
    (record { role = 2; block = fields.mapping_root } ∷ record { role = 4; block = fields.details_root } ∷ record { role = 5; block = fields.data_map.bitmap_root } ∷ record { role = 7; block = fields.data_map.overflow_root } ∷ record { role = 8; block = fields.meta_map.bitmap_root } ∷ record { role = 10; block = fields.meta_map.overflow_root } ∷ [])
    all in
    record { devices = roots.0; details = roots.1.0; data_index = roots.1.1.0; data_overflow = roots.1.1.1.0; meta_index = roots.1.1.1.1.0; meta_overflow = roots.1.1.1.1.1.0 }

pub returns-clause-cache : goal.returns-clause-cache
returns-clause-cache c = λ until image looks none.
    let block = block_at image 0 in
    let fields = cache_fields block in
    let graph = cache_graph block in
    let lawful = c.trees_are_in_order.ensures.lawful Cache until image none in
    let ordered = c.trees_are_in_order.ensures.in_order Cache until image looks none in
    let start = c.edges_lead_to_reached_pairs.ensures.start graph image lawful in
    let all = rw (cache_edges block (ordered.well_formed 0 0 start)) at (c.edges_lead_to_reached_pairs.ensures.edges graph image 0 0 lawful start) in
    let maps : List Edge = record { role = 7; block = fields.meta_map.bitmap_root } ∷ record { role = 9; block = fields.meta_map.overflow_root } ∷ dirty_edges fields in
    let behind_hints = behind_optional (To graph image) 3 fields.hint_root (optional_edge 5 fields.discard_root ++ maps) all.1 in
    let behind_discards = behind_optional (To graph image) 5 fields.discard_root maps behind_hints in
    record {
      mappings = all.0;
      hints = at_optional (To graph image) 3 fields.hint_root (optional_edge 5 fields.discard_root ++ maps) all.1;
      discards = at_optional (To graph image) 5 fields.discard_root maps behind_hints;
      meta_index = behind_discards.0;
      meta_overflow = behind_discards.1.0;
      dirty_bits = λ two. dirty_at (To graph image) fields two behind_discards.1.1;
    }

pub returns-clause-era : goal.returns-clause-era
returns-clause-era c = λ until image looks none.
    let block = block_at image 0 in
    let fields = era_fields block in
    let graph = era_graph block in
    let lawful = c.trees_are_in_order.ensures.lawful Era until image none in
    let ordered = c.trees_are_in_order.ensures.in_order Era until image looks none in
    let start = c.edges_lead_to_reached_pairs.ensures.start graph image lawful in
    let all = rw (era_edges block (ordered.well_formed 0 0 start)) at (c.edges_lead_to_reached_pairs.ensures.edges graph image 0 0 lawful start) in
    let maps : List Edge = record { role = 5; block = fields.array_root } ∷ record { role = 7; block = fields.meta_map.bitmap_root } ∷ record { role = 9; block = fields.meta_map.overflow_root } ∷ [] in
    let behind_snap = behind_optional (To graph image) 1 fields.snap_root (record { role = 2; block = fields.writesets_root } ∷ (optional_edge 3 fields.current_root ++ maps)) all in
    let behind_current = behind_optional (To graph image) 3 fields.current_root maps behind_snap.1 in
    record {
      writesets = behind_snap.0;
      current = at_optional (To graph image) 3 fields.current_root maps behind_snap.1;
      eras = behind_current.0;
      meta_index = behind_current.1.0;
      meta_overflow = behind_current.1.1.0;
    }
