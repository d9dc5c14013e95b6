-- How often the data blocks of a sound pool are referred to: by each leaf that stands in the tree of a device, once.
use Rattle.std.proofs.Common.{◌≡◌, ◌≢◌, ◌↔◌, inl, inr, ℕ, zero, suc, ◌*◌, ◌<◌, ◌≤◌, Bool, true, false, ◌&&◌, nat_eq, nat_le, nat_lt, cond, List, [], ◌∷◌, length, map, filter, refl, sym, ap, ◌∙◌, arith}
use Rattle.std.proofs.Math.Nat.{mul-zero, zero-mul}
use Rattle.std.specs.List.{AllByRecursion, flat_map, range_with_len, sum_by}
use Rattle.std.proofs.lemmas.Bool.{both_ways, cases_Bool, cases_lt, cond_both, lt-ltb, le-leb, ltb-true, and_parts}
use Rattle.pd_kinds.specs.Graph.{block_at, block_of, data_count, data_refs_of, is_inner_pair, is_reached, next, nodes, pair, role_of, Graph}
use Rattle.pd_kinds.specs.Lawful.{IsLawful}
use Rattle.pd_kinds.specs.Layout.{graph_of, is_bad, layout_data, leaf_entries}
use Rattle.pd_kinds.specs.Meaning.{Mapping}
use Rattle.pd_kinds.specs.Node.{Entry}
use Rattle.pd_kinds.specs.Paths.{IsOnPath}
use Rattle.pd_kinds.specs.Stages.{IsReached}
use Rattle.pd_kinds.specs.ThinFormat.{mapped_block, thin_graph, thin_layout, thin_fields}
use Rattle.pd_kinds.specs.Whole.{top_entries}
use Rattle.pd_kinds.proofs.KindLemmas.{the_mapping}
use Rattle.pd_kinds.proofs.KindsListLemmas.{count_by-flat_map}
use Rattle.pd_kinds.specs.InOrder.{AreInOrder}
use Rattle.pd_kinds.proofs.ListLemmas.{all_from}
use Rattle.pd_kinds.specs.Image.{room_of}
use Rattle.pd_grammar.specs.Lawful.{IsLawfulPool}
use Rattle.pd_laid.specs.Laid.{count_in, IsLaid, laid_number}
use Rattle.pd_laid.proofs.NodeFacts.{block_pair, inner_is, not_bad, role_pair}
use Rattle.pd_laid.proofs.SalvageLemmas.{bottom_tree}
use Rattle.pd_laid.specs.Shape.{all_leaf_blocks, image_shape, is_shared_leaf, mappings_in, IsShape, ThinShape, pool_of}
use Rattle.pd_laid.specs.PoolText.{shape_data}
use Rattle.pd_laid.specs.LaidThin.{laid_shape}
use Rattle.pd_tree.specs.Search.{IsTreeTo}
use Rattle.pd_meaning_thin.specs.Marks.{occurs}
use Rattle.pd_meaning_thin.proofs.OccursLemmas.{holds_among, occurs_there}
use Rattle.pd_laws_laid.proofs.DataCounts.{counts_are}
use Rattle.pd_laws_laid.proofs.ThinLaw.{data_count_is, graph_is}
use Rattle.pd_laws_laid.proofs.ThinPool.{pool_in_place, shape_fits}
use Rattle.pd_laws_laid.proofs.ShapeNeed.{number_with}
use Rattle.pd_laws_shapes.specs.Counts.{FewInShared}
use Rattle.pd_laws_shapes.proofs.LeafLemmas.{counted_any}
use Rattle.pd_laws_shapes.proofs.ShapeCounts.{same_sums, sum_in_role, sum_kept, shape_counted, shape_share, times}
use Rattle.pd_laws_shapes.proofs.ReachedLeaves.{reached_stands, stands_reached}
use Rattle.pd_laws_shapes.proofs.SoundShape.{graph}
use Rattle.pd_laws_changed.proofs.FreeBlocks.{bottom_is}

-- the data blocks that entries name are those of their mappings
entries_name : (es : List Entry) → flat_map (λ (e : Entry). mapped_block e.value ∷ []) es ≡ map (λ (x : Mapping). x.data_block) (map the_mapping es)
entries_name [] = refl
entries_name (e ∷ es) = ap (λ (rest : List ℕ). mapped_block e.value ∷ rest) (entries_name es)

-- only leaves of mappings name data blocks
none_named : (es : List Entry) → flat_map (λ (e : Entry). let none : List ℕ = [] in none) es ≡ []
none_named [] = refl
none_named (e ∷ es) = none_named es

others_name_none : (nr data_blocks role : ℕ) (block : List ℕ) → role ≢ 3 → layout_data (thin_layout nr data_blocks role) block ≡ []
unfolding thin_layout
others_name_none nr data_blocks zero block other = refl
others_name_none nr data_blocks (suc zero) block other = refl
others_name_none nr data_blocks (suc (suc zero)) block other = none_named (leaf_entries 8 block)
others_name_none nr data_blocks (suc (suc (suc zero))) block other = absurd (other refl)
others_name_none nr data_blocks (suc (suc (suc (suc zero)))) block other = none_named (leaf_entries 24 block)
others_name_none nr data_blocks (suc (suc (suc (suc (suc zero))))) block other = none_named (leaf_entries 16 block)
others_name_none nr data_blocks (suc (suc (suc (suc (suc (suc zero)))))) block other = refl
others_name_none nr data_blocks (suc (suc (suc (suc (suc (suc (suc zero))))))) block other = none_named (leaf_entries 4 block)
others_name_none nr data_blocks (suc (suc (suc (suc (suc (suc (suc (suc zero)))))))) block other = refl
others_name_none nr data_blocks (suc (suc (suc (suc (suc (suc (suc (suc (suc zero))))))))) block other = refl
others_name_none nr data_blocks (suc (suc (suc (suc (suc (suc (suc (suc (suc (suc zero)))))))))) block other = none_named (leaf_entries 4 block)
others_name_none nr data_blocks (suc (suc (suc (suc (suc (suc (suc (suc (suc (suc (suc role))))))))))) block other = refl

-- what has no mappings names nothing
none_of_none : (ms : List Mapping) (d : ℕ) → length ms ≡ 0 → count_in (map (λ (x : Mapping). x.data_block) ms) d ≡ 0
none_of_none [] d none = refl
none_of_none (m ∷ ms) d none = absurd (omega arith)

module _ (image : List (List ℕ)) (ordered : AreInOrder (graph image) image) where
  abbrev nr : ℕ
  nr = (thin_fields (block_at image 0)).meta_map.blocks

  abbrev data_blocks : ℕ
  data_blocks = (thin_fields (block_at image 0)).data_map.blocks

  -- a reached leaf names the data blocks of its mappings; blocks in other roles name none, and an inner node has none
  leaf_names : (c : ℕ) → IsReached (graph image) image c 3 → data_refs_of (graph image) image (pair c 3) ≡ map (λ (x : Mapping). x.data_block) (mappings_in image c)
  unfolding thin_graph graph_of
  leaf_names c reached =
      rw (
        role_pair c 3 (omega arith),
        block_pair c 3 (omega arith),
        not_bad 11 nr data_blocks (thin_layout nr data_blocks) image ordered (bottom_tree data_blocks) 3 (omega arith) (bottom_is nr data_blocks) c reached,
        bottom_is nr data_blocks,
      )
      (entries_name (leaf_entries 8 (block_at image c)))

  other_names : (p : ℕ) → role_of p ≢ 3 → data_refs_of (graph image) image p ≡ []
  unfolding thin_graph graph_of
  other_names p other =
      cond_both (is_bad nr (role_of p) (thin_layout nr data_blocks (role_of p)) (block_of p) (block_at image (block_of p))) [] _ (λ (named : List ℕ). named ≡ [])
      (λ _. refl) (λ _. others_name_none nr data_blocks (role_of p) (block_at image (block_of p)) other)

  inner_names : (c d : ℕ) → IsReached (graph image) image c 3 → is_inner_pair (graph image) image (pair c 3) ≡ true → times image d c ≡ 0
  unfolding thin_graph leaf_entries
  inner_names c d reached inner =
      let node = sym (inner_is 11 nr data_blocks (thin_layout nr data_blocks) image ordered (bottom_tree data_blocks) 3 (omega arith) (bottom_is nr data_blocks) c reached) ∙ inner in
      rw node refl

  -- so the references are a sum over the leaves that are reached
  data_counted : (d : ℕ) → data_count (graph image) image d
      ≡ sum_by (λ b. cond (is_reached (graph image) image (pair b 3)) (times image d b) 0) (range_with_len 0 (graph image).nr)
  unfolding data_count nodes
  data_counted d =
      let found = is_reached (graph image) image in
      let named : ℕ → ℕ = λ p. count_in (data_refs_of (graph image) image p) d in
      let pairs = range_with_len 0 (16 * (graph image).nr) in
      let joined = count_by-flat_map (λ r. nat_eq r d) (data_refs_of (graph image) image) (filter found pairs) in
      let kept = sum_kept named found pairs in
      let by_block = sum_in_role (λ p. cond (found p) (named p) 0) 3 (graph image).nr (omega arith)
      (λ p other. cond_both (found p) (named p) 0 (λ (n : ℕ). n ≡ 0) (λ _. ap (λ (refs : List ℕ). count_in refs d) (other_names p other)) (λ _. refl)) in
      let same = same_sums (λ b. cond (found (pair b 3)) (named (pair b 3)) 0) (λ b. cond (found (pair b 3)) (times image d b) 0) 0 (graph image).nr
      (λ b below. by_found b (omega arith) (found (pair b 3)) refl) in
      joined ∙ (kept ∙ (by_block ∙ same))
    where
      by_found : (b : ℕ) → b < (graph image).nr → (there : Bool) → is_reached (graph image) image (pair b 3) ≡ there
          → cond there (count_in (data_refs_of (graph image) image (pair b 3)) d) 0 ≡ cond there (times image d b) 0
      by_found b below true is = ap (λ (refs : List ℕ). count_in refs d) (leaf_names b (record { block = below; within = omega arith; found = is }))
      by_found b below false is = refl

  module _ (lawful : IsLawful (graph image))
      (paths : (q : ℕ) → (is_reached (graph image) image q ≡ true) ↔ IsOnPath (16 * (graph image).nr) (next (graph image) image) q)
      (to : IsTreeTo (graph image) 2 8 3 (λ v. v)) (rooted : IsReached (graph image) image (thin_fields (block_at image 0)).mapping_root 2)
      (devices : AllByRecursion (λ (e : Entry). IsReached (graph image) image e.value 3) (top_entries (graph image) image (thin_fields (block_at image 0)).mapping_root))
      (none_held : (thin_fields (block_at image 0)).held_root ≡ 0) (few : FewInShared image) (d : ℕ) where
    abbrev stands : List ℕ
    stands = all_leaf_blocks (graph image) image

    all_reached : AllByRecursion (λ b. IsReached (graph image) image b 3) stands
    all_reached = stands_reached image lawful ordered paths to rooted devices

    -- what a leaf counts in the shape, by whether it is shared
    abbrev share : ℕ → Bool → ℕ
    share b is_shared = cond is_shared (times image d b) (count_in stands b * times image d b)

    -- one that stands there often and isn't shared names nothing, so each that stands there counts once
    nothing_often : (b : ℕ) → is_shared_leaf (graph image) image b ≡ false → 1 < count_in stands b → times image d b ≡ 0
    nothing_often b alone often =
        let many : nat_lt 1 (count_in stands b) ≡ true = lt-ltb 1 (count_in stands b) often in
        let most : nat_le (length (mappings_in image b)) 252 ≡ true = le-leb (length (mappings_in image b)) 252 (few b often) in
        none_of_none (mappings_in image b) d (no_mappings (length (mappings_in image b)) (rw (many, most) at alone))
      where
        no_mappings : (m : ℕ) → (nat_le 1 m && true) ≡ false → m ≡ 0
        no_mappings zero none = refl
        no_mappings (suc m) none = absurd (both_ways (nat_le 1 (suc m) && true) none (rw (le-leb 1 (suc m) (omega arith)) refl))

    counted_once : (b : ℕ) (is_shared : Bool) → is_shared_leaf (graph image) image b ≡ is_shared → 1 ≤ count_in stands b → share b is_shared ≡ times image d b
    counted_once b true is some = refl
    counted_once b false is some = elim (cases_lt 1 (count_in stands b)) [
      | inl often ↦ let nothing = nothing_often b is often in ap (λ (t : ℕ). count_in stands b * t) nothing ∙ (mul-zero (count_in stands b) ∙ sym nothing)
      | inr once ↦ let one : count_in stands b ≡ 1 = omega arith in ap (λ (k : ℕ). k * times image d b) one ∙ omega arith
    ]

    -- one that doesn't stand there, or that names nothing, doesn't count
    never_counted : (b : ℕ) (is_shared : Bool) → is_shared_leaf (graph image) image b ≡ is_shared → count_in stands b ≡ 0 → share b is_shared ≡ 0
    never_counted b true is none = let many = ltb-true 1 (count_in stands b) (and_parts _ _ is).0 in absurd (omega arith)
    never_counted b false is none = ap (λ (k : ℕ). k * times image d b) none ∙ zero-mul (times image d b)

    nothing_counted : (b : ℕ) (is_shared : Bool) → times image d b ≡ 0 → share b is_shared ≡ 0
    nothing_counted b true nothing = nothing
    nothing_counted b false nothing = ap (λ (t : ℕ). count_in stands b * t) nothing ∙ mul-zero (count_in stands b)

    -- so a leaf counts in the shape just what it does among the references
    reached_share : (b : ℕ) → b < (graph image).nr → (there : Bool) → is_reached (graph image) image (pair b 3) ≡ there → cond there (times image d b) 0 ≡ shape_share image d b
    unfolding occurs
    reached_share b below false missed = elim (cases_lt 0 (count_in stands b)) [
      | inl some ↦ absurd (both_ways (is_reached (graph image) image (pair b 3)) missed (holds_among (λ c. IsReached (graph image) image c 3) b stands all_reached (counted_any b stands some)).found)
      | inr none ↦ sym (never_counted b (is_shared_leaf (graph image) image b) refl (omega arith))
    ]
    reached_share b below true found =
        let reached : IsReached (graph image) image b 3 = record { block = below; within = omega arith; found = found } in
        elim (cases_Bool (is_inner_pair (graph image) image (pair b 3))) [
          | inl inner ↦ let nothing = inner_names b d reached inner in nothing ∙ sym (nothing_counted b (is_shared_leaf (graph image) image b) nothing)
          | inr leaf ↦
              sym (counted_once b (is_shared_leaf (graph image) image b) refl (occurs_there b stands (reached_stands image lawful ordered paths to rooted devices b none_held reached leaf)))
        ]

    pub counted_as_told : data_count (graph image) image d ≡ count_in (shape_data (image_shape image)) d
    counted_as_told =
        let found = is_reached (graph image) image in
        data_counted d
        ∙ (same_sums (λ b. cond (found (pair b 3)) (times image d b) 0) (shape_share image d) 0 (graph image).nr (λ b below. reached_share b (omega arith) (found (pair b 3)) refl)
        ∙ sym (shape_counted image d (all_from (λ b. IsReached (graph image) image b 3) (λ b. b < (graph image).nr) (λ b reached. reached.block) stands all_reached)))

-- How often the data blocks of a laid pool are referred to.

pub laid_counts : (w : ThinShape) (base image : List (List ℕ)) → IsLawfulPool (pool_of w) → IsShape w
    → laid_number (laid_shape w (room_of (length base))) ≤ room_of (length base) → IsLaid (laid_shape w (room_of (length base))) base image
    → (d : ℕ) → data_count (thin_graph (block_at image 0)) image d ≡ count_in (shape_data w) d
laid_counts w base image lawful shape room is d =
    let n = room_of (length base) in
    let number = number_with w n in
    let fits = shape_fits w lawful in
    let stand = pool_in_place w n base image is in
    ap (λ (g : Graph). data_count g image d) (graph_is w n image (omega arith) fits shape (omega arith) stand)
    ∙ (data_count_is w n image (omega arith) fits shape (omega arith) stand d ∙ ap (λ (counts : ℕ → ℕ). counts d) (counts_are w shape lawful))
