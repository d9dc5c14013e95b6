-- The shape of what can be saved means the salvage, and is a shape.
use Rattle.std.proofs.Common.{◌≡◌, inl, inr, ℕ, ◌^◌, ◌<◌, ◌≤◌, Bool, true, cond, not, ◌&&◌, nat_eq, nat_le, nat_lt, get_or, List, [], ◌∷◌, ◌++◌, length, map, filter, count_by, Option, Some, None, refl, sym, ◌∙◌, ap, ap₂, subst, arith}
use Rattle.std.specs.List.{AllByRecursion, flat_map, range_with_len}
use Rattle.std.proofs.lemmas.Bool.{cases_Bool, and_parts, eqb-true, leb-true, ltb-true}
use Rattle.std.proofs.lemmas.Grind.{flat_map-append}
use Rattle.std.proofs.lemmas.List.{length-map, map-append}
use Rattle.std.proofs.lemmas.Option.{none-some}
use Rattle.std.proofs.lemmas.List.Elements.{filter-append}
use Rattle.std.proofs.lemmas.List.Sums.{count_by-le-length, length-filter, sum_by-append, sum_by-cons}
use Rattle.pd_kinds.specs.Graph.{block_at}
use Rattle.pd_kinds.specs.Layout.{leaf_entries}
use Rattle.pd_kinds.specs.Meaning.{Mapping, ThinDevice}
use Rattle.pd_kinds.specs.Node.{Entry}
use Rattle.pd_kinds.specs.ThinFormat.{mapped_block, ThinFields}
use Rattle.pd_kinds.proofs.KindLemmas.{the_mapping}
use Rattle.pd_laid.specs.Salvage.{salvaged_entries, salvaged_device, salvaged_mappings, salvage_from, Visit, entries_of_visit, visited, device_visits, is_saved_shared, is_whole_visit, number_of_visit, pieces_of_visits, saved_device_shape, saved_of_visit, saved_shape_from, saved_shared, saved_tops, saved_visits}
use Rattle.pd_laid.specs.Shape.{ArePieces, IsShape, Piece, ShapeDevice, device_of, piece_mappings, pool_of, uses_of, uses_of_piece, mappings_in, with_leaf}
use Rattle.pd_laid.proofs.GatherLemmas.{visits_give}
use Rattle.pd_laws_shapes.specs.Counts.{IsSharedTwice}
use Rattle.pd_laws_shapes.proofs.LeafLemmas.{Ascend, at_place, counted_any, filtered_all, filtered_ascend, filtered_few, uses_one, leaf_at, leaves, number_is, number_of, numbers, own_are, own_means, own_uses}

-- a filter that leaves as many as there are leaves all
pub filter_full : {X : Type 0} → (p : X → Bool) (xs : List X) → length (filter p xs) ≡ length xs → filter p xs ≡ xs
filter_full p [] same = refl
filter_full {X} p (x ∷ xs) same = elim (cases_Bool (p x)) [
  | inl passes ↦ rw passes (ap (λ (rest : List X). x ∷ rest) (filter_full p xs (let all = rw passes at same in omega arith)))
  | inr fails ↦
      let all = rw fails at same in
      let few = count_by-le-length p xs in
      let number = length-filter p xs in
      absurd (omega arith)
]

few_filtered : {X : Type 0} → (p : X → Bool) (xs : List X) → length (filter p xs) ≤ length xs
few_filtered p xs = let few = count_by-le-length p xs in let number = length-filter p xs in omega arith

-- what is counted stands somewhere
pub record Stands {X : Type 0} (p : X → Bool) (P : X → Type 0) : Type 0 where
  pub one : X
  pub passes : p one ≡ true
  pub known : P one

pub counted_stands : {X : Type 0} → (p : X → Bool) (P : X → Type 0) (xs : List X) → AllByRecursion P xs → 1 ≤ count_by p xs → Stands p P
counted_stands p P [] all some = absurd (omega arith)
counted_stands p P (x ∷ xs) all some = elim (cases_Bool (p x)) [
  | inl here ↦ record { one = x; passes = here; known = all.0 }
  | inr other ↦
      let counted = sum_by-cons (λ y. cond {A = ℕ} (p y) 1 0) x xs in
      let none : cond {A = ℕ} (p x) 1 0 ≡ 0 = rw other refl in
      counted_stands p P xs all.1 (omega arith)
]

any_fact : {X : Type 0} → (xs : List X) → AllByRecursion (λ _. Unit {0}) xs
any_fact [] = tt
any_fact (x ∷ xs) = (tt, any_fact xs)

module _ (fields : ThinFields) (image : List (List ℕ)) where
  abbrev pub saved : Visit → List Mapping
  saved v = saved_of_visit fields image v

  -- a whole visit saves the mappings of its leaf
  pub whole_saves : (v : Visit) → is_whole_visit fields image v ≡ true → saved v ≡ mappings_in image v.leaf
  whole_saves v whole =
      let entries = leaf_entries 8 (block_at image v.leaf) in
      let met = entries_of_visit 8 image v in
      let kept = filter (λ (e : Entry). nat_lt (mapped_block e.value) fields.data_map.blocks) met in
      let same = eqb-true (length (saved v)) (length (mappings_in image v.leaf)) (and_parts _ _ whole).0 in
      let saved_number = length-map kept the_mapping in
      let all_number = length-map entries the_mapping in
      let few = few_filtered (λ (e : Entry). nat_lt (mapped_block e.value) fields.data_map.blocks) met in
      let few_met = few_filtered (λ (e : Entry). not (nat_lt e.key v.low) && nat_lt e.key v.high) entries in
      let all_kept = filter_full (λ (e : Entry). nat_lt (mapped_block e.value) fields.data_map.blocks) met (omega arith) in
      let all_met = filter_full (λ (e : Entry). not (nat_lt e.key v.low) && nat_lt e.key v.high) entries (omega arith) in
      ap (map the_mapping) (all_kept ∙ all_met)

  module _ (shared_ones : List ℕ) where
    abbrev found : Visit → Option ℕ
    found v = number_of_visit fields image shared_ones v

    -- a visit has a number where it is whole, and its leaf is shared
    number_whole : (v : Visit) (k : ℕ) → found v ≡ Some k → (is_whole_visit fields image v ≡ true) × (number_of shared_ones v.leaf ≡ Some k)
    number_whole v k e = elim (cases_Bool (is_whole_visit fields image v)) [
      | inl whole ↦ (whole, rw whole at e)
      | inr part ↦ absurd (none-some k (rw part at e))
    ]

    abbrev pub visit_pieces : List Visit → List Piece
    visit_pieces vs = pieces_of_visits fields image shared_ones vs

    -- the pieces mean what the visits save
    visit_means : (v : Visit) (number : Option ℕ) → found v ≡ number → (rest : List Piece)
        → flat_map (piece_mappings (leaves image shared_ones)) (with_leaf (saved v) number rest)
        ≡ saved v ++ flat_map (piece_mappings (leaves image shared_ones)) rest
    visit_means v None e rest = own_means (leaves image shared_ones) (saved v) rest
    visit_means v (Some k) e rest =
        let both = number_whole v k e in
        let is = number_is shared_ones v.leaf k both.1 in
        ap (λ (ms : List Mapping). ms ++ flat_map (piece_mappings (leaves image shared_ones)) rest)
        (leaf_at image shared_ones shared_ones k is.0 ∙ (ap (mappings_in image) is.1 ∙ sym (whole_saves v both.0)))

    visits_mean : (vs : List Visit) → flat_map (piece_mappings (leaves image shared_ones)) (visit_pieces vs) ≡ flat_map saved vs
    visits_mean [] = refl
    visits_mean (v ∷ vs) =
        visit_means v (found v) refl (visit_pieces vs) ∙ ap (λ (rest : List Mapping). saved v ++ rest) (visits_mean vs)

    -- they are pieces
    visit_are : (v : Visit) (number : Option ℕ) → found v ≡ number → (rest : List Piece) → ArePieces (length shared_ones) rest
        → ArePieces (length shared_ones) (with_leaf (saved v) number rest)
    visit_are v None e rest are = own_are (length shared_ones) (saved v) rest are
    visit_are v (Some k) e rest are = ((number_is shared_ones v.leaf k (number_whole v k e).1).0, are)

    visits_are : (vs : List Visit) → ArePieces (length shared_ones) (visit_pieces vs)
    visits_are [] = tt
    visits_are (v ∷ vs) = visit_are v (found v) refl (visit_pieces vs) (visits_are vs)

    -- they use the numbers of the visits
    visit_uses : (v : Visit) (number : Option ℕ) (rest : List Piece)
        → flat_map uses_of_piece (with_leaf (saved v) number rest) ≡ numbers number ++ flat_map uses_of_piece rest
    visit_uses v None rest = own_uses (saved v) rest
    visit_uses v (Some k) rest = refl

    visits_use : (vs : List Visit) → flat_map uses_of_piece (visit_pieces vs) ≡ flat_map (λ v. numbers (found v)) vs
    visits_use [] = refl
    visits_use (v ∷ vs) = visit_uses v (found v) (visit_pieces vs) ∙ ap (λ (rest : List ℕ). numbers (found v) ++ rest) (visits_use vs)

    -- a number is used as often as its leaf is visited whole
    module _ (ascend : Ascend 0 shared_ones) (k : ℕ) (within : k < length shared_ones) where
      abbrev test : Visit → Bool
      test v = nat_eq v.leaf (get_or shared_ones k 0) && is_whole_visit fields image v

      used_once : (v : Visit) → count_by (λ used. nat_eq used k) (numbers (found v)) ≡ cond (test v) 1 0
      used_once v = elim (cases_Bool (is_whole_visit fields image v)) [
        | inl whole ↦ elim (cases_Bool (nat_eq v.leaf (get_or shared_ones k 0))) [
          | inl here ↦ rw (whole, here) (uses_one shared_ones ascend k within v.leaf (number_of shared_ones v.leaf) refl ∙ rw here refl)
          | inr other ↦ rw (whole, other) (uses_one shared_ones ascend k within v.leaf (number_of shared_ones v.leaf) refl ∙ rw other refl)
        ]
        | inr part ↦ elim (cases_Bool (nat_eq v.leaf (get_or shared_ones k 0))) [
          | inl here ↦ rw (part, here) refl
          | inr other ↦ rw (part, other) refl
        ]
      ]

      used_counted : (vs : List Visit) → count_by (λ used. nat_eq used k) (flat_map (λ v. numbers (found v)) vs) ≡ count_by test vs
      used_counted [] = refl
      used_counted (v ∷ vs) =
          let both = sum_by-append (λ used. cond {A = ℕ} (nat_eq used k) 1 0) (numbers (found v)) (flat_map (λ v. numbers (found v)) vs) in
          let first = used_once v in
          let rest = used_counted vs in
          let counted = sum_by-cons (λ w. cond {A = ℕ} (test w) 1 0) v vs in
          omega (arith, both, first, rest, counted)

  -- what visits save, and what is given below a root
  saved_joined : (vs : List Visit)
      → flat_map saved vs ≡ map the_mapping (filter (λ (e : Entry). nat_lt (mapped_block e.value) fields.data_map.blocks) (flat_map (entries_of_visit 8 image) vs))
  saved_joined [] = refl
  saved_joined (v ∷ vs) =
      let in_pool = λ (e : Entry). nat_lt (mapped_block e.value) fields.data_map.blocks in
      let here = entries_of_visit 8 image v in
      let later = flat_map (entries_of_visit 8 image) vs in
      ap (λ (rest : List Mapping). saved v ++ rest) (saved_joined vs)
      ∙ sym (ap (map the_mapping) (filter-append in_pool here later) ∙ map-append the_mapping (filter in_pool here) (filter in_pool later))

  visits_save : (root : ℕ) → flat_map saved (visited 8 fields.meta_map.blocks image root) ≡ salvaged_mappings fields image root
  unfolding salvaged_mappings salvaged_entries visited
  visits_save root =
      saved_joined (visited 8 fields.meta_map.blocks image root)
      ∙ ap (λ (es : List Entry). map the_mapping (filter (λ (e : Entry). nat_lt (mapped_block e.value) fields.data_map.blocks) es))
      (visits_give 8 fields.meta_map.blocks image 64 root 0 (2 ^ 64))

  abbrev pub ones : List ℕ
  ones = saved_shared fields image

  -- each device means the saved one
  device_means : (top : Entry) → device_of (leaves image ones) (saved_device_shape fields image top) ≡ salvaged_device fields image top
  unfolding salvaged_device
  device_means top =
      ap (λ (ms : List Mapping). record (salvaged_device fields image top) { mappings = ms })
      (visits_mean ones (device_visits fields image top) ∙ visits_save top.value)

  devices_mean : (tops : List Entry) → map (device_of (leaves image ones)) (map (saved_device_shape fields image) tops) ≡ map (salvaged_device fields image) tops
  devices_mean [] = refl
  devices_mean (top ∷ tops) = ap₂ (λ (d : ThinDevice) (ds : List ThinDevice). d ∷ ds) (device_means top) (devices_mean tops)

  pub shape_means : pool_of (saved_shape_from fields image) ≡ salvage_from fields image
  unfolding pool_of saved_shape_from salvage_from
  shape_means = ap (λ (ds : List ThinDevice). record (salvage_from fields image) { devices = ds }) (devices_mean (saved_tops fields image))

  -- their pieces, and the numbers that they use
  devices_are : (tops : List Entry) → AllByRecursion (λ (d : ShapeDevice). ArePieces (length ones) d.pieces) (map (saved_device_shape fields image) tops)
  devices_are [] = tt
  devices_are (top ∷ tops) = (visits_are ones (device_visits fields image top), devices_are tops)

  devices_use : (tops : List Entry) → flat_map uses_of (map (saved_device_shape fields image) tops)
      ≡ flat_map (λ v. numbers (number_of_visit fields image ones v)) (flat_map (device_visits fields image) tops)
  devices_use [] = refl
  devices_use (top ∷ tops) =
      ap₂ (λ (front back : List ℕ). front ++ back) (visits_use ones (device_visits fields image top)) (devices_use tops)
      ∙ sym (flat_map-append (λ v. numbers (number_of_visit fields image ones v)) (device_visits fields image top) (flat_map (device_visits fields image) tops))

  ascend : Ascend 0 ones
  unfolding saved_shared
  ascend = filtered_ascend (is_saved_shared fields image) 0 fields.meta_map.blocks

  pub are_shared : AllByRecursion (λ b. is_saved_shared fields image b ≡ true) ones
  unfolding saved_shared
  are_shared = filtered_all (λ b. is_saved_shared fields image b ≡ true) (is_saved_shared fields image) (λ b e. e) (range_with_len 0 fields.meta_map.blocks)

  few_shared : length ones ≤ fields.meta_map.blocks
  unfolding saved_shared
  few_shared = filtered_few (is_saved_shared fields image) 0 fields.meta_map.blocks

  leaves_number : length (saved_shape_from fields image).leaves ≡ length ones
  unfolding saved_shape_from
  leaves_number = length-map ones (mappings_in image)

  uses_are : (k : ℕ) → k < length ones → count_by (λ used. nat_eq used k) (flat_map uses_of (saved_shape_from fields image).devices)
      ≡ count_by (λ (v : Visit). nat_eq v.leaf (get_or ones k 0) && is_whole_visit fields image v) (saved_visits fields image)
  unfolding saved_shape_from
  uses_are k within =
      ap (λ (uses : List ℕ). count_by (λ used. nat_eq used k) uses) (devices_use (saved_tops fields image))
      ∙ used_counted ones ascend k within (saved_visits fields image)

  pub shared_twice : IsSharedTwice (saved_shape_from fields image)
  shared_twice k within =
      let number = leaves_number in
      let is = at_place (λ b. is_saved_shared fields image b ≡ true) ones k are_shared (omega arith) in
      let many = ltb-true 1 (count_by (λ (v : Visit). nat_eq v.leaf (get_or ones k 0) && is_whole_visit fields image v) (saved_visits fields image)) is in
      let uses = uses_are k (omega arith) in
      omega arith

  -- a shared leaf has 1 to 252 mappings
  pub shared_size : (b : ℕ) → is_saved_shared fields image b ≡ true → (nat_le 1 (length (mappings_in image b)) && nat_le (length (mappings_in image b)) 252) ≡ true
  shared_size b is =
      let many = ltb-true 1 (count_by (λ (v : Visit). nat_eq v.leaf b && is_whole_visit fields image v) (saved_visits fields image)) is in
      let one = counted_stands (λ (v : Visit). nat_eq v.leaf b && is_whole_visit fields image v) (λ _. Unit {0}) (saved_visits fields image) (any_fact (saved_visits fields image)) (omega arith) in
      let parts = and_parts (nat_eq one.one.leaf b) (is_whole_visit fields image one.one) one.passes in
      subst (λ (c : ℕ). (nat_le 1 (length (mappings_in image c)) && nat_le (length (mappings_in image c)) 252) ≡ true) (eqb-true one.one.leaf b parts.0) (and_parts _ _ parts.1).1

  leaf_sizes : (xs : List ℕ) → AllByRecursion (λ b. is_saved_shared fields image b ≡ true) xs
      → AllByRecursion (λ (ms : List Mapping). 1 ≤ length ms) (map (mappings_in image) xs) × AllByRecursion (λ (ms : List Mapping). length ms ≤ 252) (map (mappings_in image) xs)
  leaf_sizes [] are = (tt, tt)
  leaf_sizes (b ∷ xs) are =
      let parts = and_parts (nat_le 1 (length (mappings_in image b))) (nat_le (length (mappings_in image b)) 252) (shared_size b are.0) in
      let rest = leaf_sizes xs are.1 in
      ((leb-true 1 (length (mappings_in image b)) parts.0, rest.0), (leb-true (length (mappings_in image b)) 252 parts.1, rest.1))

  pub is_shape : fields.meta_map.blocks ≤ 2 ^ 64 → IsShape (saved_shape_from fields image)
  unfolding saved_shape_from
  is_shape few =
      let number = leaves_number in
      let most = few_shared in
      let sized = leaf_sizes ones are_shared in
      record {
        numbers_fit = omega (arith, number, most, few);
        filled = sized.0;
        few = sized.1;
        pieces = rw number (devices_are (saved_tops fields image));
        used = λ k within. counted_any k (flat_map uses_of (saved_shape_from fields image).devices) (let twice = shared_twice k within in omega (arith, twice));
      }
