-- What is read to count and compare references is reached in roles of its own.
use Rattle.std.proofs.Common.{◌≡◌, ℕ, ◌%◌, ◌^◌, ◌<◌, ◌≤◌, Bool, true, false, ◌||◌, nat_eq, List, [], ◌∷◌, ◌++◌, length, map, refl, ap, sym, subst, ◌∙◌, arith}
use Rattle.std.specs.List.{range_with_len, AllByRecursion, IsDistinct}
use Rattle.std.specs.Cmp.{nat_eq_equiv}
use Rattle.std.proofs.lemmas.Bool.{or_parts}
use Rattle.std.proofs.lemmas.List.{length-map}
use Rattle.std.proofs.lemmas.List.FromFn.{length-range_with_len}
use Rattle.std.proofs.lemmas.List.Sums.{sum_by-append}
use Rattle.std.proofs.lemmas.Map.Made.{IsDistinct-from_count}
use Rattle.std.proofs.lemmas.Map.Steps.{length-le_from_distinct_below}
use Rattle.pd_kinds.specs.declared.kind.Kind.{Kind}
use Rattle.pd_kinds.specs.declared.kind.Kind.TheVariants.{Thin, Cache, Era}
use Rattle.pd_kinds.specs.declared.kind.Stage.{Stage}
use Rattle.pd_kinds.specs.declared.superblocks.SmRoot.{SmRoot}
use Rattle.pd_kinds.specs.declared.rule.Rule.TheVariants.{Index}
use Rattle.pd_kinds.specs.Bitmap.{bitmaps_for, index_block_at, index_blocks}
use Rattle.pd_kinds.specs.Node.{Entry}
use Rattle.pd_kinds.specs.Graph.{Graph, block_at, nodes}
use Rattle.pd_kinds.specs.Lawful.{IsLawful}
use Rattle.pd_kinds.specs.Stages.{faults, thin_checked, cache_checked, era_checked, IsReached}
use Rattle.pd_kinds.specs.Trees.{entries_below}
use Rattle.pd_kinds.specs.Whole.{bitmap_tests, whole_bad, thin_whole, cache_whole, era_whole}
use Rattle.pd_kinds.specs.ThinFormat.{thin_fields, thin_graph, thin_layout}
use Rattle.pd_kinds.specs.CacheFormat.{cache_fields, cache_graph, cache_layout}
use Rattle.pd_kinds.specs.EraFormat.{era_fields, era_graph, era_layout}
use Rattle.pd_kinds.specs.InOrder.{AreInOrder, LooksAtOrder, graph_of_kind}
use Rattle.pd_kinds.proofs.ListLemmas.{all_append}
use Rattle.pd_kinds.proofs.CleanLemmas.{whole_where_none}
use Rattle.pd_kinds.specs.declared.kind.Stage.TheVariants as stages
use Rattle.pd_graph.specs.declared.audit.Audit.{Audit}
use Rattle.pd_tree.specs.Below.{nodes_below}
use Rattle.pd_tree.specs.Search.{HasCacheRoots, HasEraRoots, HasThinRoots, HasCacheTrees, HasEraTrees, HasThinTrees, IsTreeRole, IsTreeTo}
use Rattle.pd_check.specs.Known.{IsKnown}
use Rattle.pd_check.specs.Refs.{AreReachedOnce, InRole, IsIndexRole, blocks_in, named_in}
use Rattle.pd_check.proofs.SharedLemmas.{whole_bad-append, whole_bad-cons}
use Rattle.pd_check.proofs.NodeLemmas.{member_holds}
use Rattle.pd_check.specs.Check.{graph_of_super, ClaimsFew, count_reads, data_reads, meta_reads, IsWhole}
use Rattle.pd_check.proofs.CountLemmas.{data_number as counted_data, index_keys, map_number as counted_meta}

-- the roles of index blocks
thin_index : (super_block : List ℕ) → IsIndexRole (thin_graph super_block) 8 9
unfolding thin_graph thin_layout
thin_index super_block = record {
  roles = 11;
  nr = (thin_fields super_block).meta_map.blocks;
  data_blocks = (thin_fields super_block).data_map.blocks;
  layout = thin_layout (thin_fields super_block).meta_map.blocks (thin_fields super_block).data_map.blocks;
  is = refl;
  at = refl;
  few = omega arith;
}

cache_index : (super_block : List ℕ) → IsIndexRole (cache_graph super_block) 7 8
unfolding cache_graph cache_layout
cache_index super_block = record {
  roles = 12;
  nr = (cache_fields super_block).meta_map.blocks;
  data_blocks = 0;
  layout = cache_layout (cache_fields super_block).meta_map.blocks;
  is = refl;
  at = refl;
  few = omega arith;
}

era_index : (super_block : List ℕ) → IsIndexRole (era_graph super_block) 7 8
unfolding era_graph era_layout
era_index super_block = record {
  roles = 10;
  nr = (era_fields super_block).meta_map.blocks;
  data_blocks = 0;
  layout = era_layout (era_fields super_block).meta_map.blocks;
  is = refl;
  at = refl;
  few = omega arith;
}

-- the roles of bitmaps
abbrev is_thin_bitmap : ℕ → Bool
is_thin_bitmap role = nat_eq role 6 || nat_eq role 9

abbrev is_map_bitmap : ℕ → Bool
is_map_bitmap role = nat_eq role 8

-- no bitmap breaks the rule Index in an image without a fault up to the rules of the whole image
thin_bitmaps : (image : List (List ℕ)) → faults Thin stages.Whole image ≡ [] → (b : ℕ) → b < (thin_graph (block_at image 0)).nr
    → whole_bad (bitmap_tests (thin_graph (block_at image 0)) image is_thin_bitmap) b Index ≡ false
unfolding faults thin_checked thin_whole
thin_bitmaps image none b within =
    let tests = bitmap_tests (thin_graph (block_at image 0)) image is_thin_bitmap in
    let later = (or_parts _ _ (sym (whole_bad-cons _ _ b Index) ∙ whole_where_none (thin_checked image) image [] none b Index within)).1 in
    (or_parts _ _ (sym (whole_bad-append tests _ b Index) ∙ later)).0

cache_bitmaps : (image : List (List ℕ)) → faults Cache stages.Whole image ≡ [] → (b : ℕ) → b < (cache_graph (block_at image 0)).nr
    → whole_bad (bitmap_tests (cache_graph (block_at image 0)) image is_map_bitmap) b Index ≡ false
unfolding faults cache_checked cache_whole
cache_bitmaps image none b within =
    let tests = bitmap_tests (cache_graph (block_at image 0)) image is_map_bitmap in
    let later = (or_parts _ _ (sym (whole_bad-cons _ _ b Index) ∙ whole_where_none (cache_checked image) image [] none b Index within)).1 in
    (or_parts _ _ (sym (whole_bad-append tests _ b Index) ∙ later)).0

era_bitmaps : (image : List (List ℕ)) → faults Era stages.Whole image ≡ [] → (b : ℕ) → b < (era_graph (block_at image 0)).nr
    → whole_bad (bitmap_tests (era_graph (block_at image 0)) image is_map_bitmap) b Index ≡ false
unfolding faults era_checked era_whole
era_bitmaps image none b within =
    let tests = bitmap_tests (era_graph (block_at image 0)) image is_map_bitmap in
    (or_parts _ _ (sym (whole_bad-append tests _ b Index) ∙ whole_where_none (era_checked image) image [] none b Index within)).0

-- an index block names as many bitmaps as the metadata blocks need
bitmap_number : (nr : ℕ) (block : List ℕ) → length (index_blocks nr block) ≡ bitmaps_for nr
unfolding index_blocks
bitmap_number nr block = length-map {A = ℕ} {B = ℕ} (range_with_len 0 (bitmaps_for nr)) (index_block_at block) ∙ length-range_with_len 0 (bitmaps_for nr)

-- the parts of a map of metadata blocks: the index block, the bitmaps that it names, and the nodes of the overflow tree
map_parts : Graph → List (List ℕ) → SmRoot → ℕ → ℕ → ℕ → List InRole
map_parts graph image root index bitmaps overflow =
    record { role = index; blocks = root.bitmap_root ∷ [] }
    ∷ record { role = bitmaps; blocks = named_in graph image (record { role = index; blocks = root.bitmap_root ∷ [] }) bitmaps }
    ∷ record { role = overflow; blocks = nodes_below 4 image 63 root.overflow_root }
    ∷ []

-- those of a pool's data blocks: the nodes of the index tree, the bitmaps that it names, and the nodes of the overflow tree
data_parts : Graph → List (List ℕ) → SmRoot → List InRole
data_parts graph image root =
    record { role = 5; blocks = nodes_below 16 image 63 root.bitmap_root }
    ∷ record { role = 6; blocks = named_in graph image (record { role = 5; blocks = nodes_below 16 image 63 root.bitmap_root }) 6 }
    ∷ record { role = 7; blocks = nodes_below 4 image 63 root.overflow_root }
    ∷ []

-- blocks that are reached once each are no more than the metadata blocks
within_blocks : (graph : Graph) (image : List (List ℕ)) (part : InRole) → AreReachedOnce graph image part → length part.blocks ≤ graph.nr
within_blocks graph image part once =
    length-le_from_distinct_below part.blocks graph.nr once.once
    (λ q among. (member_holds (λ b. IsReached graph image b part.role) q part.blocks once.reached among).block)

-- the laws on what is reached
module _ (tree_once : (graph : Graph) (image : List (List ℕ)) (b role size : ℕ) → IsLawful graph → AreInOrder graph image → IsTreeRole graph role size → IsReached graph image b role
    → AreReachedOnce graph image (record { role = role; blocks = nodes_below size image 63 b }))
    (tree_names : (graph : Graph) (image : List (List ℕ)) (b role size next : ℕ) (named : ℕ → ℕ) → IsTreeTo graph role size next named → IsLawful graph → AreInOrder graph image
    → IsReached graph image b role → (role ≡ next → ⊥)
    → named_in graph image (record { role = role; blocks = nodes_below size image 63 b }) next ≡ map (λ (e : Entry). named e.value) (entries_below graph image size role b))
    (index_names : (graph : Graph) (image : List (List ℕ)) (b role next : ℕ) → IsIndexRole graph role next → AreInOrder graph image → IsReached graph image b role
    → named_in graph image (record { role = role; blocks = b ∷ [] }) next ≡ index_blocks graph.nr (block_at image b))
    (named_once : (graph : Graph) (image : List (List ℕ)) (is_bitmap : ℕ → Bool) (part : InRole) (role : ℕ) → IsLawful graph
    → ((b : ℕ) → b < graph.nr → whole_bad (bitmap_tests graph image is_bitmap) b Index ≡ false) → part.role < 16 → is_bitmap role ≡ true → AreReachedOnce graph image part
    → AreReachedOnce graph image (record { role = role; blocks = named_in graph image part role })) where
  -- a map of metadata blocks
  module _ (graph : Graph) (image : List (List ℕ)) (is_bitmap : ℕ → Bool) (root : SmRoot) (index bitmaps overflow : ℕ) (lawful : IsLawful graph) (ordered : AreInOrder graph image)
      (none : (b : ℕ) → b < graph.nr → whole_bad (bitmap_tests graph image is_bitmap) b Index ≡ false) (is_role : is_bitmap bitmaps ≡ true)
      (is_index : IsIndexRole graph index bitmaps) (is_tree : IsTreeRole graph overflow 4)
      (index_root : IsReached graph image root.bitmap_root index) (overflow_root : IsReached graph image root.overflow_root overflow) where
    map_once : AllByRecursion (AreReachedOnce graph image) (map_parts graph image root index bitmaps overflow)
    unfolding map_parts IsDistinct
    map_once =
        let first : AreReachedOnce graph image (record { role = index; blocks = root.bitmap_root ∷ [] }) = record { reached = (index_root, tt); once = (tt, tt) } in (
          first,
          (
            named_once graph image is_bitmap (record { role = index; blocks = root.bitmap_root ∷ [] }) bitmaps lawful none is_index.few is_role first,
            (tree_once graph image root.overflow_root overflow 4 lawful ordered is_tree overflow_root, tt),
          ),
        )

    map_number : root.blocks ≡ graph.nr → blocks_in (map_parts graph image root index bitmaps overflow) ≡ meta_reads root image
    unfolding map_parts
    map_number same =
        let named : length (named_in graph image (record { role = index; blocks = root.bitmap_root ∷ [] }) bitmaps) ≡ bitmaps_for root.blocks =
        ap (length {A = ℕ}) (index_names graph image root.bitmap_root index bitmaps is_index ordered index_root)
        ∙ (bitmap_number graph.nr (block_at image root.bitmap_root) ∙ ap (λ (n : ℕ). bitmaps_for n) (sym same)) in
        omega arith

  module _ (ordered : (kind : Kind) (until : Stage) (image : List (List ℕ)) → LooksAtOrder until → faults kind until image ≡ [] → AreInOrder (graph_of_kind kind image) image)
      (thin_trees : (super_block : List ℕ) → HasThinTrees (thin_graph super_block))
      (cache_trees : (super_block : List ℕ) → HasCacheTrees (cache_graph super_block))
      (era_trees : (super_block : List ℕ) → HasEraTrees (era_graph super_block))
      (thin_roots : (until : Stage) (image : List (List ℕ)) → LooksAtOrder until → faults Thin until image ≡ [] → HasThinRoots (thin_graph (block_at image 0)) image (thin_fields (block_at image 0)))
      (cache_roots : (until : Stage) (image : List (List ℕ)) → LooksAtOrder until → faults Cache until image ≡ [] → HasCacheRoots (cache_graph (block_at image 0)) image (cache_fields (block_at image 0)))
      (era_roots : (until : Stage) (image : List (List ℕ)) → LooksAtOrder until → faults Era until image ≡ [] → HasEraRoots (era_graph (block_at image 0)) image (era_fields (block_at image 0))) where
    -- a pool
    module _ (image : List (List ℕ)) (audit : Audit) (none : faults Thin stages.Whole image ≡ []) (known : IsKnown (thin_graph (block_at image 0)) image audit) where
      data_once : AllByRecursion (AreReachedOnce (thin_graph (block_at image 0)) image) (data_parts (thin_graph (block_at image 0)) image (thin_fields (block_at image 0)).data_map)
      unfolding data_parts
      data_once =
          let graph = thin_graph (block_at image 0) in
          let root = (thin_fields (block_at image 0)).data_map in
          let roots = thin_roots stages.Whole image tt none in
          let trees = thin_trees (block_at image 0) in
          let in_order = ordered Thin stages.Whole image tt none in
          let index = tree_once graph image root.bitmap_root 5 16 known.lawful in_order trees.data_index.is_role roots.data_index in (
            index,
            (
              named_once graph image is_thin_bitmap (record { role = 5; blocks = nodes_below 16 image 63 root.bitmap_root }) 6 known.lawful (thin_bitmaps image none) (omega arith) refl index,
              (tree_once graph image root.overflow_root 7 4 known.lawful in_order trees.data_overflow roots.data_overflow, tt),
            ),
          )

      -- the index tree names as many bitmaps as the data blocks need
      bitmaps_named : length (named_in (thin_graph (block_at image 0)) image (record { role = 5; blocks = nodes_below 16 image 63 (thin_fields (block_at image 0)).data_map.bitmap_root }) 6)
          ≡ bitmaps_for (thin_fields (block_at image 0)).data_map.blocks
      bitmaps_named =
          let graph = thin_graph (block_at image 0) in
          let root = (thin_fields (block_at image 0)).data_map in
          let roots = thin_roots stages.Whole image tt none in
          let trees = thin_trees (block_at image 0) in
          let entries = entries_below graph image 16 5 root.bitmap_root in
          ap (length {A = ℕ}) (tree_names graph image root.bitmap_root 5 16 6 (λ v. v % 2 ^ 64) trees.data_index known.lawful (ordered Thin stages.Whole image tt none) roots.data_index (λ same. omega arith))
          ∙ (length-map {A = Entry} {B = ℕ} entries (λ (e : Entry). e.value % 2 ^ 64)
          ∙ (sym (length-map {A = Entry} {B = ℕ} entries (λ (e : Entry). e.key))
          ∙ (ap (length {A = ℕ}) (index_keys image none roots.data_index.block)
          ∙ (length-range_with_len 0 (bitmaps_for graph.data_blocks)
          ∙ ap (λ (n : ℕ). bitmaps_for n) (sym (counted_data Thin (block_at image 0) (record { root = root; role = 3 }) refl))))))

      data_number : blocks_in (data_parts (thin_graph (block_at image 0)) image (thin_fields (block_at image 0)).data_map)
          ≡ data_reads (record { root = (thin_fields (block_at image 0)).data_map; role = 3 }) image
      unfolding data_parts
      data_number = let named = bitmaps_named in omega arith

      -- each of them stands in a block of its own
      claims_thin : bitmaps_for (thin_fields (block_at image 0)).data_map.blocks ≤ (thin_graph (block_at image 0)).nr
      unfolding data_parts
      claims_thin =
          let graph = thin_graph (block_at image 0) in
          let part : InRole =
          record { role = 6; blocks = named_in graph image (record { role = 5; blocks = nodes_below 16 image 63 (thin_fields (block_at image 0)).data_map.bitmap_root }) 6 } in
          let named = bitmaps_named in
          let most = within_blocks graph image part data_once.1.0 in
          omega arith

    -- so a superblock claims no more data blocks than there is room for their bitmaps
    claims_of : (kind : Kind) (image : List (List ℕ)) (audit : Audit) → faults kind stages.Whole image ≡ [] → IsKnown (graph_of_super kind (block_at image 0)) image audit
        → ClaimsFew kind (block_at image 0)
    claims_of Thin image audit none known = claims_thin image audit none known
    claims_of Cache image audit none known = tt
    claims_of Era image audit none known = tt

    pub claims : (kind : Kind) (first : List ℕ) (image : List (List ℕ)) (audit : Audit) → IsWhole kind first image audit → ClaimsFew kind first
    claims kind first image audit whole =
        subst (ClaimsFew kind) whole.first_block
        (claims_of kind image audit whole.none (subst (λ (m : List ℕ). IsKnown (graph_of_super kind m) image audit) (sym whole.first_block) whole.known))

    -- and the blocks that are read are no more than the reachable pairs
    module _ (no_more : (graph : Graph) (image : List (List ℕ)) (parts : List InRole) → AllByRecursion (AreReachedOnce graph image) parts
        → IsDistinct nat_eq (map (λ (part : InRole). part.role) parts) → blocks_in parts ≤ length (nodes graph image)) where
      -- of a pool
      few_thin : (image : List (List ℕ)) (audit : Audit) → faults Thin stages.Whole image ≡ [] → IsKnown (thin_graph (block_at image 0)) image audit
          → count_reads Thin (block_at image 0) image ≤ length (nodes (thin_graph (block_at image 0)) image)
      unfolding count_reads data_parts map_parts
      few_thin image audit none known =
          let graph = thin_graph (block_at image 0) in
          let fields = thin_fields (block_at image 0) in
          let roots = thin_roots stages.Whole image tt none in
          let tree = (thin_trees (block_at image 0)).meta_overflow in
          let in_order = ordered Thin stages.Whole image tt none in
          let bitmaps = thin_bitmaps image none in
          let map = map_once graph image is_thin_bitmap fields.meta_map 8 9 10 known.lawful in_order bitmaps refl (thin_index (block_at image 0)) tree roots.meta_index roots.meta_overflow in
          let most = no_more graph image (data_parts graph image fields.data_map ++ map_parts graph image fields.meta_map 8 9 10)
          (all_append (AreReachedOnce graph image) (data_parts graph image fields.data_map) (map_parts graph image fields.meta_map 8 9 10) (data_once image audit none known) map)
          (IsDistinct-from_count nat_eq_equiv (5 ∷ 6 ∷ 7 ∷ 8 ∷ 9 ∷ 10 ∷ []) refl) in
          let both = sum_by-append (λ (part : InRole). length part.blocks) (data_parts graph image fields.data_map) (map_parts graph image fields.meta_map 8 9 10) in
          let first = data_number image audit none known in
          let second = map_number graph image is_thin_bitmap fields.meta_map 8 9 10 known.lawful in_order bitmaps refl (thin_index (block_at image 0)) tree roots.meta_index roots.meta_overflow
          (counted_meta Thin (block_at image 0)) in
          omega arith

      -- where a map of metadata blocks alone is compared
      few_map : (graph : Graph) (image : List (List ℕ)) (root : SmRoot) → IsLawful graph → AreInOrder graph image
          → ((b : ℕ) → b < graph.nr → whole_bad (bitmap_tests graph image is_map_bitmap) b Index ≡ false) → IsIndexRole graph 7 8 → IsTreeRole graph 9 4
          → IsReached graph image root.bitmap_root 7 → IsReached graph image root.overflow_root 9 → root.blocks ≡ graph.nr → meta_reads root image ≤ length (nodes graph image)
      unfolding map_parts
      few_map graph image root lawful in_order bitmaps index tree index_root overflow_root same =
          let most = no_more graph image (map_parts graph image root 7 8 9)
          (map_once graph image is_map_bitmap root 7 8 9 lawful in_order bitmaps refl index tree index_root overflow_root)
          (IsDistinct-from_count nat_eq_equiv (7 ∷ 8 ∷ 9 ∷ []) refl) in
          let number = map_number graph image is_map_bitmap root 7 8 9 lawful in_order bitmaps refl index tree index_root overflow_root same in
          omega arith

      -- of any kind
      few_of : (kind : Kind) (image : List (List ℕ)) (audit : Audit) → faults kind stages.Whole image ≡ [] → IsKnown (graph_of_super kind (block_at image 0)) image audit
          → count_reads kind (block_at image 0) image ≤ length (nodes (graph_of_super kind (block_at image 0)) image)
      unfolding count_reads
      few_of Thin image audit none known = few_thin image audit none known
      few_of Cache image audit none known =
          let first = block_at image 0 in
          let roots = cache_roots stages.Whole image tt none in
          let few = few_map (cache_graph first) image (cache_fields first).meta_map known.lawful (ordered Cache stages.Whole image tt none) (cache_bitmaps image none)
          (cache_index first) (cache_trees first).meta_overflow roots.meta_index roots.meta_overflow (counted_meta Cache first) in
          omega arith
      few_of Era image audit none known =
          let first = block_at image 0 in
          let roots = era_roots stages.Whole image tt none in
          let few = few_map (era_graph first) image (era_fields first).meta_map known.lawful (ordered Era stages.Whole image tt none) (era_bitmaps image none)
          (era_index first) (era_trees first).meta_overflow roots.meta_index roots.meta_overflow (counted_meta Era first) in
          omega arith

      pub few : (kind : Kind) (first : List ℕ) (image : List (List ℕ)) (audit : Audit) → IsWhole kind first image audit
          → count_reads kind first image ≤ length (nodes (graph_of_super kind first) image)
      few kind first image audit whole =
          subst (λ (m : List ℕ). count_reads kind m image ≤ length (nodes (graph_of_super kind m) image)) whole.first_block
          (few_of kind image audit whole.none (subst (λ (m : List ℕ). IsKnown (graph_of_super kind m) image audit) (sym whole.first_block) whole.known))
