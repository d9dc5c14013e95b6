use Rattle.std.proofs.Common.{◌≡◌, ℕ, Bool, true, false, cond, ◌==◌, List, filter, map, refl, inl, inr}
use Rattle.std.specs.List.{list_any}
use Rattle.std.proofs.lemmas.Bool.{eqb-true}
use Rattle.pd_kinds.specs.declared.kind.Kind.TheVariants.{Cache}
use Rattle.pd_kinds.specs.Graph.{block_at, block_of, nodes, role_of}
use Rattle.pd_kinds.specs.Node.{Entry}
use Rattle.pd_kinds.specs.Trees.{entries_below}
use Rattle.pd_kinds.specs.CacheFormat.{cache_fields, cache_graph, cache_layout, has_dirty_bits}
use Rattle.pd_kinds.specs.Layout.{graph_of}
use Rattle.pd_answers.specs.Writebacks.{dirty_places}
use Rattle.pd_laws_changed.proofs.DirtyPlaces.{places_are_named}
use Rattle.pd_laws_changed.proofs.settled.dirty_places_are_named.Goals as goal

no_tree : (block : List ℕ) → ((cache_graph block).is_tree 2 ≡ false) × ((cache_graph block).is_tree 11 ≡ false)
unfolding cache_graph graph_of cache_layout
no_tree block = (refl, refl)

-- what holds by either version holds by the version that there is
by_version : (second : Bool) (P : ℕ → ℕ → ℕ → Type 0) (dirty mapping : ℕ) → (second ≡ true → P 11 10 dirty) → (second ≡ false → P 2 1 mapping)
    → P (cond second 11 2) (cond second 10 1) (cond second dirty mapping)
by_version true P dirty mapping two one = two refl
by_version false P dirty mapping two one = one refl

pub returns : goal.returns
unfolding dirty_places
returns c = λ until image b looks none.
    let graph = cache_graph (block_at image 0) in
    let fields = cache_fields (block_at image 0) in
    let lawful = c.trees_are_in_order.ensures.lawful Cache until image none in
    let ordered = c.trees_are_in_order.ensures.in_order Cache until image looks none in
    let paths = c.reached_by_paths.ensures.super_block graph image in
    let roots = c.superblocks_lead_to_reached_roots.ensures.cache until image looks none in
    let trees = c.formats_have_trees.ensures.cache (block_at image 0) in
    by_version (has_dirty_bits fields.version)
    (λ (role tree root : ℕ). list_any (λ place. place == b) (map block_of (filter (λ p. role_of p == role) (nodes graph image))) ≡ list_any (λ (e : Entry). e.value == b) (entries_below graph image 8 tree root))
    fields.dirty_root fields.mapping_root
    (λ second.
    let root = roots.dirty_bits (eqb-true fields.version 2 second) in
    places_are_named image 10 fields.dirty_root (inr refl) lawful (λ e is same. is.dirty same) (λ e is same. is.no_bits same) (no_tree (block_at image 0)).1
    paths ordered trees.dirty_bits root b
    (c.entries_lead_to_reached_pairs.ensures graph image fields.dirty_root 10 8 11 (λ v. v) trees.dirty_bits lawful ordered root))
    (λ first.
    places_are_named image 1 fields.mapping_root (inl refl) lawful (λ e is same. is.mapping same) (λ e is same. is.no_words same) (no_tree (block_at image 0)).0
    paths ordered trees.mappings roots.mappings b
    (c.entries_lead_to_reached_pairs.ensures graph image fields.mapping_root 1 8 2 (λ v. v) trees.mappings lawful ordered roots.mappings))
