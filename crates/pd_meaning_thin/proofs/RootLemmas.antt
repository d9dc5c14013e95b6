-- The roots of a pool's devices, and their trees, in an image without faults.
use Rattle.std.proofs.Common.{◌≡◌, ◌↔◌, ℕ, ◌*◌, ◌<◌, ◌≤◌, min, length, true, if◌then◌else◌, List, [], ◌∷◌, refl, sym, ◌∙◌, arith}
use Rattle.std.specs.List.{AllByRecursion}
use Rattle.std.proofs.lemmas.List.{map-id}
use Rattle.std.proofs.lemmas.Simd.{map-map}
use Rattle.pd_kinds.specs.declared.kind.Kind.TheVariants.{Thin}
use Rattle.pd_kinds.specs.declared.limits.TheConstants.{MAX_META_BLOCKS}
use Rattle.pd_kinds.specs.Node.{Entry, is_inner_node}
use Rattle.pd_kinds.specs.Graph.{Graph, block_at, pair, block_of, is_inner_pair, next, is_reached, children, gathered, is_deep}
use Rattle.pd_kinds.specs.Lawful.{IsLawful}
use Rattle.pd_kinds.specs.Layout.{graph_of}
use Rattle.pd_kinds.specs.Paths.{IsOnPath}
use Rattle.pd_kinds.specs.Stages.{HasCleanSuper, IsReached, faults, thin_checked}
use Rattle.pd_kinds.specs.ThinFormat.{thin_graph, thin_fields}
use Rattle.pd_kinds.specs.Whole.{top_entries}
use Rattle.pd_kinds.proofs.ListLemmas.{all_from, all_mapped}
use Rattle.pd_kinds.proofs.CleanLemmas.{clean_super_where_none}
use Rattle.pd_kinds.proofs.ThinTable.{super_sound}
use Rattle.pd_kinds.specs.declared.kind.Stage.TheVariants as stages
use Rattle.pd_laid.specs.Shape.{device_roots, leaf_blocks}
use Rattle.pd_value.specs.declared.thin.Root.{Root}
use Rattle.pd_tree.specs.Below.{nodes_below}
use Rattle.pd_tree.specs.Cursor.{item_of, root_of}
use Rattle.pd_tree.specs.Search.{IsSoundTree, IsUnder, IsTreeRole}
use Rattle.pd_tree.specs.Search.IsUnder.{itself, below}
use Rattle.pd_tree.proofs.ReachLemmas.{IsMet, met}
use Rattle.pd_tree.proofs.OnceLemmas.{entries_are, levels_are, once_is, under_is}
use Rattle.pd_tree.proofs.SoundLemmas.{met_child}
use Rattle.pd_tree.proofs.TreeLemmas.{block_pair, tree_at, agree}
use Rattle.pd_meaning_thin.specs.Walk.{IsProperTree, leaves_below, roots_below}

-- a leaf of a tree is itself what stands there
leaf_is : (b : ℕ) → block_of (pair b 3) ∷ [] ≡ b ∷ []
leaf_is b = rw (block_pair b 3 (omega arith)) refl

module _ (graph : Graph) (image : List (List ℕ)) (is : IsTreeRole graph 3 8) where
  -- the leaves of a sound tree are those below its root
  pub leaves_are : (b : ℕ) → IsSoundTree graph image (pair b 3) → leaf_blocks graph image b ≡ leaves_below image 63 b
  unfolding leaf_blocks leaves_below
  leaves_are b sound =
      sym (map-id (gathered (is_inner_pair graph image) (children graph image) (λ p. block_of p ∷ []) 63 (pair b 3)))
      ∙ agree graph image 3 8 (tree_at graph image 3 8 is) (λ (c : ℕ). c) (λ p. block_of p ∷ []) (λ c. if is_inner_node (block_at image c) then [] else c ∷ [])
      (λ c leaf clean. rw leaf (leaf_is c)) (λ c inner. rw inner refl) 63 b sound.rules

  module _ (lawful : IsLawful graph) (paths : (q : ℕ) → (is_reached graph image q ≡ true) ↔ IsOnPath (16 * graph.nr) (next graph image) q) where
    -- each pair of a met tree is met
    met_under : (p q : ℕ) → IsUnder graph image p q → IsMet graph image lawful p → IsMet graph image lawful q
    met_under p q (itself r) there = there
    met_under p q (below p' c q' is_child under) there = met_under c q' under (met_child graph image lawful p' c there is_child)

    -- so its nodes are blocks of the format
    node_within : (b c : ℕ) → IsReached graph image b 3 → IsUnder graph image (pair b 3) (pair c 3) → c < graph.nr
    node_within b c reached under =
        let there = (met_under (pair b 3) (pair c 3) under (met graph image lawful paths b 3 reached)).block in
        rw (block_pair c 3 (omega arith)) at there

    -- the tree of a reached root
    pub tree_is : (b : ℕ) → IsReached graph image b 3 → IsSoundTree graph image (pair b 3) → IsProperTree image graph.nr b
    unfolding is_deep
    tree_is b reached sound = record {
      levels = levels_are graph image b 3 8 is sound 64 ∙ sound.level;
      once = once_is graph image b 3 8 is sound;
      within = all_from (λ c. IsUnder graph image (pair b 3) (pair c 3)) (λ c. c < graph.nr) (λ c. node_within b c reached) (nodes_below 8 image 63 b) (under_is graph image b 3 8 is sound);
    }

-- how many metadata blocks a pool has
pub nr_is : (block : List ℕ) → (thin_graph block).nr ≡ (thin_fields block).meta_map.blocks
unfolding thin_graph graph_of
nr_is block = refl

-- and that there is a mark for each
sizes_if_clean : (image : List (List ℕ)) → HasCleanSuper (thin_checked image) image
    → ((thin_fields (block_at image 0)).meta_map.blocks ≤ length image) × ((thin_fields (block_at image 0)).meta_map.blocks ≤ MAX_META_BLOCKS)
unfolding thin_checked
sizes_if_clean [] clean = absurd clean
sizes_if_clean (block ∷ blocks) clean =
    let sound = super_sound (length (block ∷ blocks)) block clean in
    (sound.within, sound.few_blocks)

pub nr_fits : (image : List (List ℕ)) → faults Thin stages.Whole image ≡ [] → min (min (length image) (thin_fields (block_at image 0)).meta_map.blocks) MAX_META_BLOCKS ≡ (thin_graph (block_at image 0)).nr
unfolding faults
nr_fits image none =
    let sizes = sizes_if_clean image (clean_super_where_none (thin_checked image) image (stages.Walk ∷ stages.Order ∷ stages.Whole ∷ []) none) in
    rw (nr_is (block_at image 0)) (least (length image) (thin_fields (block_at image 0)).meta_map.blocks MAX_META_BLOCKS sizes.0 sizes.1)
  where
    least : (device nr most : ℕ) → nr ≤ device → nr ≤ most → min (min device nr) most ≡ nr
    least device nr most fits few = omega arith

-- the roots of the devices are those that a cursor gives of the mapping tree
pub roots_are : (image : List (List ℕ)) → IsTreeRole (thin_graph (block_at image 0)) 2 8 → IsSoundTree (thin_graph (block_at image 0)) image (pair (thin_fields (block_at image 0)).mapping_root 2)
    → device_roots (thin_graph (block_at image 0)) image ≡ roots_below image (thin_fields (block_at image 0)).mapping_root
roots_are image is sound =
    let root = (thin_fields (block_at image 0)).mapping_root in
    rw (entries_are (thin_graph (block_at image 0)) image root 2 8 is sound root_of)
    (sym (map-map (λ (item : ℕ × Root). item.1.0) (item_of root_of) (top_entries (thin_graph (block_at image 0)) image root)))

-- what holds of each reached root of mappings holds of each root of a device
pub each_root : (P : ℕ → Type 0) (image : List (List ℕ)) → ((b : ℕ) → IsReached (thin_graph (block_at image 0)) image b 3 → P b)
    → AllByRecursion (λ (e : Entry). IsReached (thin_graph (block_at image 0)) image e.value 3) (top_entries (thin_graph (block_at image 0)) image (thin_fields (block_at image 0)).mapping_root)
    → AllByRecursion P (device_roots (thin_graph (block_at image 0)) image)
each_root P image each named =
    let tops = top_entries (thin_graph (block_at image 0)) image (thin_fields (block_at image 0)).mapping_root in
    all_mapped (λ (e : Entry). e.value) P tops
    (all_from (λ (e : Entry). IsReached (thin_graph (block_at image 0)) image e.value 3) (λ (e : Entry). P e.value) (λ e. each e.value) tops named)
