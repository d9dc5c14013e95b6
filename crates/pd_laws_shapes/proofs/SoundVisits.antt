-- In a pool without faults up to the stage Whole each leaf is visited with all its mappings, so what is saved has the shape of the
-- pool.
use Rattle.std.proofs.Common.{◌≡◌, inl, inr, ℕ, Bool, true, false, cond, not, ◌&&◌, nat_eq, nat_le, nat_lt, List, [], ◌∷◌, ◌++◌, length, map, filter, count_by, Option, Some, None, refl, sym, ◌∙◌, ap, ap₂, subst, eq-eqb, arith}
use Rattle.std.specs.List.{AllByRecursion, flat_map, range_with_len}
use Rattle.std.proofs.lemmas.Bool.{cases_Bool, eqb-true, both_ways, not-false, not_from_false}
use Rattle.std.proofs.lemmas.List.{map-append}
use Rattle.std.proofs.lemmas.List.Sums.{sum_by-cons}
use Rattle.pd_kinds.specs.Graph.{is_outside, Graph, block_at, block_of}
use Rattle.pd_kinds.specs.Image.{HasBytes}
use Rattle.pd_kinds.specs.Layout.{Layout, graph_of, leaf_entries}
use Rattle.pd_kinds.specs.Lawful.{IsLawful}
use Rattle.pd_kinds.specs.Meaning.{Mapping, ThinDevice, ThinPool, thin_meaning}
use Rattle.pd_kinds.specs.Node.{Entry}
use Rattle.pd_kinds.specs.Stages.{IsReached}
use Rattle.pd_kinds.specs.ThinFormat.{mapped_block, thin_graph, thin_layout, ThinFields, thin_fields}
use Rattle.pd_kinds.specs.Whole.{top_entries}
use Rattle.pd_kinds.proofs.KindLemmas.{the_mapping}
use Rattle.pd_kinds.specs.InOrder.{AreInOrder}
use Rattle.pd_kinds.proofs.ListLemmas.{all_from, none_passes}
use Rattle.pd_laid.specs.Salvage.{salvaged_device, salvage, salvage_from, Visit, entries_of_visit, device_visits, is_saved_shared, is_whole_visit, number_of_visit, pieces_of_visits, saved_device_shape, saved_shape, saved_shape_from, saved_shared, saved_tops, saved_visits}
use Rattle.pd_laid.specs.Shape.{Piece, ShapeDevice, ThinShape, all_leaf_blocks, device_shapes, image_shape, is_shared_leaf, leaf_blocks, mappings_in, pieces_of, shared_leaves, with_leaf}
use Rattle.pd_laid.proofs.NodeFacts.{block_pair, under_all, visited_root, within_at}
use Rattle.pd_laid.proofs.SalvageLemmas.{IsRoot, bottom_is, bottom_tree, filter_all, given_tops, mapping_is_root, tops_are_roots}
use Rattle.pd_laws_shapes.proofs.LeafLemmas.{at_place, filtered_all, number_is, number_of}
use Rattle.pd_laws_shapes.proofs.VisitPieces.{saved, shared_size}

-- the size that a shared leaf has
abbrev fits : List (List ℕ) → ℕ → Bool
fits image b = nat_le 1 (length (mappings_in image b)) && nat_le (length (mappings_in image b)) 252

-- tests that agree keep the same
same_kept : (p q : ℕ → Bool) (xs : List ℕ) → ((x : ℕ) → p x ≡ q x) → filter p xs ≡ filter q xs
same_kept p q [] same = refl
same_kept p q (x ∷ xs) same = rw (same x, same_kept p q xs same) refl

module _ (fields : ThinFields) (image : List (List ℕ)) where
  -- a visit that saves all mappings of its leaf
  abbrev pub IsFull : Visit → Type 0
  IsFull v = saved fields image v ≡ mappings_in image v.leaf

  full_whole : (v : Visit) → IsFull v → is_whole_visit fields image v ≡ fits image v.leaf
  full_whole v full = rw (full, eq-eqb (length (mappings_in image v.leaf)) (length (mappings_in image v.leaf)) refl) refl

  -- full visits of a leaf are counted as often as the leaf stands there, if its size fits
  module _ (b : ℕ) where
    counted_one : (v : Visit) → IsFull v → (nat_eq v.leaf b && is_whole_visit fields image v) ≡ (nat_eq v.leaf b && fits image b)
    counted_one v full = elim (cases_Bool (nat_eq v.leaf b)) [
      | inl here ↦ rw here (full_whole v full ∙ ap (fits image) (eqb-true v.leaf b here))
      | inr other ↦ rw other refl
    ]

    counted : (vs : List Visit) → AllByRecursion IsFull vs
        → count_by (λ (v : Visit). nat_eq v.leaf b && is_whole_visit fields image v) vs
        ≡ count_by (λ (leaf : ℕ). nat_eq leaf b && fits image b) (map (λ (v : Visit). v.leaf) vs)
    counted [] full = refl
    counted (v ∷ vs) full =
        let one = sum_by-cons (λ (w : Visit). cond {A = ℕ} (nat_eq w.leaf b && is_whole_visit fields image w) 1 0) v vs in
        let other = sum_by-cons (λ (leaf : ℕ). cond {A = ℕ} (nat_eq leaf b && fits image b) 1 0) v.leaf (map (λ (w : Visit). w.leaf) vs) in
        let here = ap (λ (is : Bool). cond {A = ℕ} is 1 0) (counted_one v full.0) in
        let rest = counted vs full.1 in
        omega (arith, one, other, here, rest)

    sized : (size : Bool) (leaves : List ℕ) → nat_lt 1 (count_by (λ (leaf : ℕ). nat_eq leaf b && size) leaves) ≡ (nat_lt 1 (count_by (λ leaf. nat_eq leaf b) leaves) && size)
    sized true leaves = rw (kept leaves) (also (nat_lt 1 (count_by (λ leaf. nat_eq leaf b) leaves)))
      where
        with_true : (x : Bool) → (x && true) ≡ x
        with_true true = refl
        with_true false = refl

        kept : (leaves : List ℕ) → count_by (λ (leaf : ℕ). nat_eq leaf b && true) leaves ≡ count_by (λ leaf. nat_eq leaf b) leaves
        kept [] = refl
        kept (leaf ∷ leaves) =
            let one = sum_by-cons (λ (leaf : ℕ). cond {A = ℕ} (nat_eq leaf b && true) 1 0) leaf leaves in
            let other = sum_by-cons (λ (leaf : ℕ). cond {A = ℕ} (nat_eq leaf b) 1 0) leaf leaves in
            let here = ap (λ (is : Bool). cond {A = ℕ} is 1 0) (with_true (nat_eq leaf b)) in
            let rest = kept leaves in
            omega (arith, one, other, here, rest)

        also : (x : Bool) → x ≡ (x && true)
        also x = sym (with_true x)
    sized false leaves = rw (none leaves) (nothing (nat_lt 1 (count_by (λ leaf. nat_eq leaf b) leaves)))
      where
        without : (x : Bool) → (x && false) ≡ false
        without true = refl
        without false = refl

        none : (leaves : List ℕ) → count_by (λ (leaf : ℕ). nat_eq leaf b && false) leaves ≡ 0
        none [] = refl
        none (leaf ∷ leaves) =
            let one = sum_by-cons (λ (leaf : ℕ). cond {A = ℕ} (nat_eq leaf b && false) 1 0) leaf leaves in
            let here = ap (λ (is : Bool). cond {A = ℕ} is 1 0) (without (nat_eq leaf b)) in
            let rest = none leaves in
            omega (arith, one, here, rest)

        nothing : (x : Bool) → false ≡ (x && false)
        nothing x = sym (without x)

  -- the pieces of full visits, where each shared leaf has a size that fits
  module _ (shared_ones : List ℕ) (sized_ones : AllByRecursion (λ b. fits image b ≡ true) shared_ones) where
    number_same : (v : Visit) → IsFull v → number_of_visit fields image shared_ones v ≡ number_of shared_ones v.leaf
    number_same v full = elim (cases_Bool (is_whole_visit fields image v)) [
      | inl whole ↦ rw whole refl
      | inr part ↦ rw part (sym (out (number_of shared_ones v.leaf) refl part))
    ]
      where
        out : (found : Option ℕ) → number_of shared_ones v.leaf ≡ found → is_whole_visit fields image v ≡ false → found ≡ None
        out None e part = refl
        out (Some k) e part =
            let is = number_is shared_ones v.leaf k e in
            let size = at_place (λ b. fits image b ≡ true) shared_ones k sized_ones is.0 in
            absurd (both_ways (fits image v.leaf) (sym (full_whole v full) ∙ part) (ap (fits image) (sym is.1) ∙ size))

    pieces_same : (vs : List Visit) → AllByRecursion IsFull vs → pieces_of_visits fields image shared_ones vs ≡ pieces_of image shared_ones (map (λ (v : Visit). v.leaf) vs)
    pieces_same [] full = refl
    pieces_same (v ∷ vs) full =
        ap₂ (λ (ms : List Mapping) (found : Option ℕ). with_leaf ms found (pieces_of_visits fields image shared_ones vs)) full.0 (number_same v full.0)
        ∙ ap (with_leaf (mappings_in image v.leaf) (number_of shared_ones v.leaf)) (pieces_same vs full.1)

-- a shape by its words, its leaves and its devices
abbrev shape_with : ThinPool → List (List Mapping) → List ShapeDevice → ThinShape
shape_with m leaves devices = record {
  uuid = m.uuid;
  time = m.time;
  transaction = m.transaction;
  block_size = m.block_size;
  data_blocks = m.data_blocks;
  leaves = leaves;
  devices = devices;
}

module _ (image : List (List ℕ))
    (ordered : AreInOrder (graph_of 11 (thin_fields (block_at image 0)).meta_map.blocks (thin_fields (block_at image 0)).data_map.blocks
    (thin_layout (thin_fields (block_at image 0)).meta_map.blocks (thin_fields (block_at image 0)).data_map.blocks)) image)
    (lawful : IsLawful (graph_of 11 (thin_fields (block_at image 0)).meta_map.blocks (thin_fields (block_at image 0)).data_map.blocks
    (thin_layout (thin_fields (block_at image 0)).meta_map.blocks (thin_fields (block_at image 0)).data_map.blocks)))
    (bytes : HasBytes image) where
  abbrev fields : ThinFields
  fields = thin_fields (block_at image 0)

  abbrev nr : ℕ
  nr = fields.meta_map.blocks

  abbrev data_blocks : ℕ
  data_blocks = fields.data_map.blocks

  abbrev table : ℕ → Layout
  table = thin_layout nr data_blocks

  abbrev graph : Graph
  graph = graph_of 11 nr data_blocks table

  abbrev IsDeviceRoot : ℕ → Type 0
  IsDeviceRoot b = IsRoot fields image ordered bytes 3 b

  -- visits of these leaves, each of which saves all mappings of its leaf
  record AreFull (vs : List Visit) (bs : List ℕ) : Type 0 where
    pub leaves : map (λ (v : Visit). v.leaf) vs ≡ bs
    pub full : AllByRecursion (IsFull fields image) vs

  -- the data blocks of a leaf's mappings are in the pool
  abbrev IsInPool : ℕ → Type 0
  IsInPool b = AllByRecursion (λ (e : Entry). nat_lt (mapped_block e.value) data_blocks ≡ true) (leaf_entries 8 (block_at image b))

  leaf_in_pool : (c : ℕ) → IsReached graph image c 3 → IsInPool c
  leaf_in_pool c reached =
      all_from (λ (e : Entry). not (nat_lt (mapped_block e.value) data_blocks) ≡ false) (λ (e : Entry). nat_lt (mapped_block e.value) data_blocks ≡ true)
      (λ e holds. not-false (nat_lt (mapped_block e.value) data_blocks) holds) (leaf_entries 8 (block_at image c))
      (none_passes (λ (e : Entry). not (nat_lt (mapped_block e.value) data_blocks)) (leaf_entries 8 (block_at image c))
      (within_at 11 nr data_blocks table image ordered (bottom_tree data_blocks) 3 (omega arith) (bottom_is nr data_blocks) c reached))

  leaves_in_pool : (root : ℕ) → IsDeviceRoot root → AllByRecursion IsInPool (leaf_blocks graph image root)
  unfolding leaf_blocks
  leaves_in_pool root is =
      under_all 11 nr data_blocks table image ordered (bottom_tree data_blocks) 3 (omega arith) (bottom_is nr data_blocks) IsInPool (λ p. block_of p ∷ [])
      (λ c reached leaf. rw (block_pair c 3 (omega arith)) (leaf_in_pool c reached, tt)) 63 root is.1

  full_one : (v : Visit) → entries_of_visit 8 image v ≡ leaf_entries 8 (block_at image v.leaf) → IsInPool v.leaf → IsFull fields image v
  full_one v all within =
      rw all (ap (map the_mapping) (filter_all (λ (e : Entry). nat_lt (mapped_block e.value) data_blocks) (leaf_entries 8 (block_at image v.leaf)) within))

  full_each : (vs : List Visit) → AllByRecursion (λ (v : Visit). entries_of_visit 8 image v ≡ leaf_entries 8 (block_at image v.leaf)) vs
      → AllByRecursion IsInPool (map (λ (v : Visit). v.leaf) vs) → AllByRecursion (IsFull fields image) vs
  full_each [] all within = tt
  full_each (v ∷ vs) all within = (full_one v all.0 within.0, full_each vs all.1 within.1)

  device_full : (top : Entry) → IsDeviceRoot top.value → AreFull (device_visits fields image top) (leaf_blocks graph image top.value)
  unfolding leaf_blocks
  device_full top is =
      let all = visited_root 11 nr data_blocks table image ordered (bottom_tree data_blocks) 3 (omega arith) (bottom_is nr data_blocks) bytes top.value is.1 is.0 in
      record {
        leaves = all.leaves;
        full = full_each (device_visits fields image top) all.whole (subst (AllByRecursion IsInPool) (sym all.leaves) (leaves_in_pool top.value is));
      }

  both_full : (vs ws : List Visit) → AllByRecursion (IsFull fields image) vs → AllByRecursion (IsFull fields image) ws → AllByRecursion (IsFull fields image) (vs ++ ws)
  both_full [] ws first last = last
  both_full (v ∷ vs) ws first last = (first.0, both_full vs ws first.1 last)

  devices_full : (tops : List Entry) → AllByRecursion (λ (top : Entry). IsDeviceRoot top.value) tops
      → AreFull (flat_map (device_visits fields image) tops) (flat_map (leaf_blocks graph image) (map (λ (e : Entry). e.value) tops))
  devices_full [] are = record { leaves = refl; full = tt }
  devices_full (top ∷ tops) are =
      let here = device_full top are.0 in
      let rest = devices_full tops are.1 in
      record {
        leaves =
            map-append (λ (v : Visit). v.leaf) (device_visits fields image top) (flat_map (device_visits fields image) tops)
            ∙ ap₂ (λ (front back : List ℕ). front ++ back) here.leaves rest.leaves;
        full = both_full (device_visits fields image top) (flat_map (device_visits fields image) tops) here.full rest.full;
      }

  abbrev tops : List Entry
  tops = top_entries graph image fields.mapping_root

  roots_are : AllByRecursion (λ (top : Entry). IsDeviceRoot top.value) tops
  roots_are = tops_are_roots fields image ordered bytes fields.mapping_root (mapping_is_root image ordered lawful bytes)

  tops_saved : saved_tops fields image ≡ tops
  tops_saved =
      ap (filter (λ (top : Entry). not (is_outside nr top.value))) (given_tops fields image ordered bytes fields.mapping_root (mapping_is_root image ordered lawful bytes))
      ∙ filter_all (λ (top : Entry). not (is_outside nr top.value)) tops
      (all_from (λ (top : Entry). IsDeviceRoot top.value) (λ (top : Entry). not (is_outside nr top.value) ≡ true)
      (λ top root. not_from_false (is_outside nr top.value) root.0) tops roots_are)

  all_full : AreFull (saved_visits fields image) (all_leaf_blocks graph image)
  all_full = subst (λ (es : List Entry). AreFull (flat_map (device_visits fields image) es) (all_leaf_blocks graph image)) (sym tops_saved) (devices_full tops roots_are)

  -- the same leaves are shared
  shared_test : (b : ℕ) → is_saved_shared fields image b ≡ is_shared_leaf graph image b
  shared_test b =
      ap (nat_lt 1) (counted fields image b (saved_visits fields image) all_full.full
      ∙ ap (count_by (λ (leaf : ℕ). nat_eq leaf b && fits image b)) all_full.leaves)
      ∙ sized fields image b (fits image b) (all_leaf_blocks graph image)

  shared_same : saved_shared fields image ≡ shared_leaves graph image
  unfolding saved_shared shared_leaves graph_of
  shared_same = same_kept (is_saved_shared fields image) (is_shared_leaf graph image) (range_with_len 0 nr) shared_test

  shared_fit : AllByRecursion (λ b. fits image b ≡ true) (saved_shared fields image)
  unfolding saved_shared
  shared_fit = filtered_all (λ b. fits image b ≡ true) (is_saved_shared fields image) (shared_size fields image) (range_with_len 0 nr)

  -- and the devices have the same pieces
  pieces_are : (top : Entry) → IsDeviceRoot top.value → pieces_of_visits fields image (saved_shared fields image) (device_visits fields image top)
      ≡ pieces_of image (shared_leaves graph image) (leaf_blocks graph image top.value)
  pieces_are top is =
      let all = device_full top is in
      pieces_same fields image (saved_shared fields image) shared_fit (device_visits fields image top) all.full
      ∙ ap₂ (λ (ones leaves : List ℕ). pieces_of image ones leaves) shared_same all.leaves

  devices_same : (es : List Entry) → AllByRecursion (λ (top : Entry). IsDeviceRoot top.value) es
      → map (saved_device_shape fields image) es ≡ device_shapes graph image (map (salvaged_device fields image) es) (map (λ (e : Entry). e.value) es)
  devices_same [] are = refl
  devices_same (top ∷ es) are =
      ap₂ (λ (pieces : List Piece) (rest : List ShapeDevice). record (saved_device_shape fields image top) { pieces = pieces } ∷ rest)
      (pieces_are top are.0) (devices_same es are.1)

  pub shape_is : salvage_from fields image ≡ thin_meaning image → saved_shape_from fields image
      ≡ shape_with (thin_meaning image) (map (mappings_in image) (shared_leaves graph image))
      (device_shapes graph image (thin_meaning image).devices (map (λ (e : Entry). e.value) tops))
  unfolding saved_shape_from salvage_from
  shape_is same =
      let devices : map (saved_device_shape fields image) (saved_tops fields image)
      ≡ device_shapes graph image (thin_meaning image).devices (map (λ (e : Entry). e.value) tops)
      = ap (map (saved_device_shape fields image)) tops_saved
      ∙ (devices_same tops roots_are
      ∙ ap (λ (ds : List ThinDevice). device_shapes graph image ds (map (λ (e : Entry). e.value) tops))
      (ap (map (salvaged_device fields image)) (sym tops_saved) ∙ ap (λ (m : ThinPool). m.devices) same)) in
      ap (λ (m : ThinPool). shape_with m (map (mappings_in image) (saved_shared fields image)) (map (saved_device_shape fields image) (saved_tops fields image))) same
      ∙ ap₂ (λ (ones : List ℕ) (ds : List ShapeDevice). shape_with (thin_meaning image) (map (mappings_in image) ones) ds) shared_same devices

-- no fault up to the stage Whole
pub sound_shape : (image : List (List ℕ)) → AreInOrder (thin_graph (block_at image 0)) image → IsLawful (thin_graph (block_at image 0)) → HasBytes image
    → salvage image ≡ thin_meaning image → saved_shape image ≡ image_shape image
unfolding image_shape thin_graph
sound_shape image ordered lawful bytes same = shape_is image ordered lawful bytes same
