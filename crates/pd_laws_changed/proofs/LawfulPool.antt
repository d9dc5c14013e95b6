-- The pool whose mappings name the blocks that were moved is lawful.
use Rattle.std.proofs.Common.{◌≡◌, inl, inr, ℕ, ◌+◌, ◌-◌, ◌*◌, ◌<◌, ◌≤◌, false, nat_eq, List, [], ◌∷◌, length, map, Some, None, refl, ap, ◌∙◌, arith, max, Bool, true, nat_le, ◌&&◌, fold, le_trans, subst, eq-eqb, sym}
use Rattle.std.specs.List.{AllByRecursion, list_any, find, flat_map, range_with_len}
use Rattle.std.proofs.lemmas.Bool.{cases_Bool, eqb-true, or_from, and_from, and_parts, both_ways, cases_lt, le-leb, leb-true, or_left, or_right}
use Rattle.std.specs.Option.{option_and_then, option_map}
use Rattle.std.proofs.Math.Nat.{le-max_right}
use Rattle.std.proofs.lemmas.Option.{none-some, same_Some}
use Rattle.std.proofs.lemmas.List.{length-map}
use Rattle.pd_kinds.specs.Meaning.{Mapping, ThinDevice, ThinPool}
use Rattle.pd_kinds.proofs.ListLemmas.{all_from, all_from_two, all_of, all_append}
use Rattle.pd_kinds.proofs.KindsListLemmas.{all_first, all_last}
use Rattle.pd_grammar.specs.Need.{mapped_data}
use Rattle.pd_grammar.specs.Lawful.{AreDevices, AreMappings, IsDevice, IsLawfulPool}
use Rattle.pd_grammar.proofs.ThinLaws.{data_of, devices_data}
use Rattle.pd_answers.specs.Writebacks.{fast_place}
use Rattle.pd_answers.specs.Shrinks.{Move, copy_of_move, moved_to, moves_to, data_block_of, data_need, mapping_at, sources, moved_device, moved_mapping, moved_pool}
use Rattle.pd_tree.proofs.TreeLemmas.{members}
use Rattle.pd_laws_laid.proofs.Formats.{all_filtered}
use Rattle.pd_laws_laid.proofs.ListLemmas.{any_back, any_front}
use Rattle.pd_laws_changed.proofs.ViewLemmas.{stands_here, stands_not, from_first}
use Rattle.pd_laws_changed.specs.KnownPool.{AreBelow, Ascend, AreUnnamed, IsMoving}
use Rattle.pd_laws_changed.proofs.DirtyPlaces.{kept_in}

-- Where a moved data block and its blocks are, by the moves.

module _ (k : ℕ) where
  -- nothing is copied to a block that is none of the targets
  pub not_moved : (d j : ℕ) → j < k → (ds free : List ℕ) → AllByRecursion (λ b. d ≡ b → ⊥) free → fast_place k (map copy_of_move (moves_to ds free)) (d * k + j) ≡ None
  unfolding fast_place
  not_moved d j inside [] free apart = refl
  not_moved d j inside (x ∷ ds) [] apart = refl
  not_moved d j inside (x ∷ ds) (b ∷ free) apart = rw (stands_not k (record { cache_block = x; origin_block = b }) d j inside apart.0) (not_moved d j inside ds free apart.1)

  -- a data block stays, or it is one of those to be moved and its blocks are copied to a target
  pub data IsWhere (P : ℕ → Type 0) (least end : ℕ) (moves : List Move) (d : ℕ) : Type 0 where
    stays : moved_to moves d ≡ d → IsWhere P least end moves d
    goes : (t : ℕ) → moved_to moves d ≡ t → P d → least ≤ t → t < end
        → ((j : ℕ) → j < k → fast_place k (map copy_of_move moves) (t * k + j) ≡ Some (d * k + j)) → IsWhere P least end moves d

  pub where_is : (P : ℕ → Type 0) (end least d : ℕ) (ds free : List ℕ) → AllByRecursion P ds → AreBelow end free → Ascend least free → IsWhere P least end (moves_to ds free) d
  unfolding fast_place moved_to
  where_is P end least d [] free all below ascend = stays refl
  where_is P end least d (x ∷ ds) [] all below ascend = stays refl
  where_is P end least d (x ∷ ds) (b ∷ free) all below ascend = elim (cases_Bool (nat_eq x d)) [
    | inl here ↦
        let same : x ≡ d = eqb-true x d here in
        goes b (rw here refl) (rw same at all.0) ascend.0 below.0
        (λ j inside.
        let place : x * k + (b * k + j - b * k) ≡ x * k + j = omega arith in
        rw (stands_here k (record { cache_block = x; origin_block = b }) j inside) (ap (λ (n : ℕ). Some n) (place ∙ ap (λ (y : ℕ). y * k + j) same)))
    | inr other ↦ elim (where_is P end (b + 1) d ds free all.1 below.1 ascend.1) [
      | stays is ↦ stays (rw other is)
      | goes t is holds from under places ↦
          let first = ascend.0 in
          goes t (rw other is) holds (omega arith) under (λ j inside. rw (stands_not k (record { cache_block = x; origin_block = b }) t j inside (λ same. omega arith)) (places j inside))
    ]
  ]

-- where a block below the new end is, and one of those to be moved, as far as there is a target for each
pub moved_below : (end d : ℕ) (ds free : List ℕ) → AreBelow end free → length ds ≤ length free → (list_any (λ x. nat_eq x d) ds ≡ false → d < end)
    → moved_to (moves_to ds free) d < end
unfolding moved_to
moved_below end d [] free below enough other = other refl
moved_below end d (x ∷ ds) [] below enough other = absurd (omega arith)
moved_below end d (x ∷ ds) (b ∷ free) below enough other = elim (cases_Bool (nat_eq x d)) [
  | inl here ↦ rw here below.0
  | inr apart ↦ rw apart (moved_below end d ds free below.1 (omega arith) (λ none. other (or_from (nat_eq x d) _ apart none)))
]

-- The data blocks that mappings name, and those of them that are to be moved.

-- a mapping names the block
abbrev pub IsNamed : ThinPool → ℕ → Type 0
IsNamed m d = list_any (λ b. nat_eq b d) (mapped_data m) ≡ true

-- what a device has at a virtual block is named
in_device : (virtual_block d : ℕ) (xs : List Mapping) → option_map (λ (x : Mapping). x.data_block) (find (λ (x : Mapping). nat_eq x.virtual_block virtual_block) xs) ≡ Some d
    → list_any (λ b. nat_eq b d) (map (λ (x : Mapping). x.data_block) xs) ≡ true
in_device virtual_block d [] found = absurd (none-some d found)
in_device virtual_block d (x ∷ xs) found = elim (cases_Bool (nat_eq x.virtual_block virtual_block)) [
  | inl here ↦ or_left (nat_eq x.data_block d) _ (eq-eqb x.data_block d (same_Some x.data_block d (rw here at found)))
  | inr other ↦ or_right (nat_eq x.data_block d) _ (in_device virtual_block d xs (rw other at found))
]

in_devices : (id virtual_block d : ℕ) (ds : List ThinDevice)
    → option_map (λ (x : Mapping). x.data_block) (option_and_then (λ (device : ThinDevice). mapping_at device virtual_block) (find (λ (device : ThinDevice). nat_eq device.id id) ds)) ≡ Some d
    → list_any (λ b. nat_eq b d) (flat_map (λ (device : ThinDevice). map (λ (x : Mapping). x.data_block) device.mappings) ds) ≡ true
in_devices id virtual_block d [] found = absurd (none-some d found)
in_devices id virtual_block d (device ∷ ds) found = elim (cases_Bool (nat_eq device.id id)) [
  | inl here ↦ any_front (λ b. nat_eq b d) (map (λ (x : Mapping). x.data_block) device.mappings) _ (in_device virtual_block d device.mappings (rw here at found))
  | inr other ↦ any_back (λ b. nat_eq b d) (map (λ (x : Mapping). x.data_block) device.mappings) _ (in_devices id virtual_block d ds (rw other at found))
]

pub is_named : (m : ThinPool) (id virtual_block d : ℕ) → data_block_of m id virtual_block ≡ Some d → IsNamed m d
unfolding data_block_of
is_named m id virtual_block d found = in_devices id virtual_block d m.devices found

-- so it is none of those that no mapping names
pub apart_from : (m : ThinPool) (d : ℕ) (free : List ℕ) → IsNamed m d → AreUnnamed m free → AllByRecursion (λ b. d ≡ b → ⊥) free
apart_from m d free named unnamed =
    all_from (λ b. list_any (λ x. nat_eq x b) (mapped_data m) ≡ false) (λ b. d ≡ b → ⊥)
    (λ b none same. both_ways (list_any (λ x. nat_eq x b) (mapped_data m)) none (subst (IsNamed m) same named)) free unnamed

-- a data block of the pool that is named is to be moved, or it is below the new end
pub moved_or_below : (m : ThinPool) (end d : ℕ) → IsNamed m d → d < m.data_blocks → list_any (λ x. nat_eq x d) (sources m end) ≡ false → d < end
unfolding sources
moved_or_below m end d named within none = elim (cases_lt d end) [
  | inl below ↦ below
  | inr past ↦
      absurd (both_ways _ none (kept_in (λ x. nat_le end x && list_any (λ b. nat_eq b x) (mapped_data m)) 0 m.data_blocks d (omega arith) (omega arith)
      (and_from (nat_le end d) _ (le-leb end d past) named)))
]

-- none of those that are to be moved is below the new end
sources_past : (m : ThinPool) (end : ℕ) → AllByRecursion (λ d. end ≤ d) (sources m end)
unfolding sources
sources_past m end =
    let test : ℕ → Bool = λ x. nat_le end x && list_any (λ b. nat_eq b x) (mapped_data m) in
    all_filtered (λ d. end ≤ d) test (range_with_len 0 m.data_blocks)
    (all_of (λ d. test d ≡ true → end ≤ d) (λ d passes. leb-true end d (and_parts (nat_le end d) (list_any (λ b. nat_eq b d) (mapped_data m)) passes).0) (range_with_len 0 m.data_blocks))

-- and the data device that is needed has each of them
each_needed : (k least room : ℕ) (ds : List ℕ) → fold max least (map (λ d. (d + 1) * k) ds) ≤ room → AllByRecursion (λ d. (d + 1) * k ≤ room) ds
each_needed k least room [] need = tt
each_needed k least room (d ∷ ds) need =
    let here = le-max_right least ((d + 1) * k) in
    let greatest = from_first (max least ((d + 1) * k)) (map (λ d. (d + 1) * k) ds) in
    (le_trans here (le_trans greatest need), each_needed k (max least ((d + 1) * k)) room ds need)

-- a data block past the new end that the data device has
pub record IsPast (k end room d : ℕ) : Type 0 where
  pub past : end ≤ d
  pub there : (d + 1) * k ≤ room

pub each_past : (m : ThinPool) (k end room : ℕ) → data_need k (sources m end) ≤ room → AllByRecursion (IsPast k end room) (sources m end)
each_past m k end room need =
    all_from_two (λ d. end ≤ d) (λ d. (d + 1) * k ≤ room) (IsPast k end room) (λ d past there. record { past = past; there = there }) (sources m end)
    (sources_past m end) (each_needed k 0 room (sources m end) need)

-- those of lawful ones are in the pool
mappings_within : (blocks least : ℕ) (xs : List Mapping) → AreMappings blocks least xs → AllByRecursion (λ d. d < blocks) (data_of xs)
mappings_within blocks least [] are = tt
mappings_within blocks least (x ∷ xs) are = (are.0.within, mappings_within blocks (x.virtual_block + 1) xs are.1)

devices_within : (blocks least : ℕ) (ds : List ThinDevice) → AreDevices blocks least ds → AllByRecursion (λ d. d < blocks) (devices_data ds)
devices_within blocks least [] are = tt
devices_within blocks least (d ∷ ds) are =
    all_append (λ d. d < blocks) (data_of d.mappings) (devices_data ds) (mappings_within blocks 0 d.mappings are.0.mappings) (devices_within blocks (d.id + 1) ds are.1)

-- where each of them is moved below an end, the moved ones are lawful below it
module _ (moves : List Move) (blocks end : ℕ) where
  abbrev GoesBelow : ℕ → Type 0
  GoesBelow d = moved_to moves d < end

  mappings_lawful : (least : ℕ) (xs : List Mapping) → AreMappings blocks least xs → AllByRecursion GoesBelow (data_of xs) → AreMappings end least (map (moved_mapping moves) xs)
  mappings_lawful least [] are below = tt
  mappings_lawful least (x ∷ xs) are below =
      (record { above = are.0.above; virtual_fits = are.0.virtual_fits; within = below.0; time_fits = are.0.time_fits }, mappings_lawful (x.virtual_block + 1) xs are.1 below.1)

  device_lawful : (least : ℕ) (d : ThinDevice) → IsDevice blocks least d → AllByRecursion GoesBelow (data_of d.mappings) → IsDevice end least (moved_device moves d)
  device_lawful least d is below = record {
    above = is.above;
    id_fits = is.id_fits;
    mapped = is.mapped ∙ sym (length-map d.mappings (moved_mapping moves));
    mapped_fits = is.mapped_fits;
    transaction_fits = is.transaction_fits;
    created_fits = is.created_fits;
    snapped_fits = is.snapped_fits;
    mappings = mappings_lawful 0 d.mappings is.mappings below;
  }

  devices_lawful : (least : ℕ) (ds : List ThinDevice) → AreDevices blocks least ds → AllByRecursion GoesBelow (devices_data ds) → AreDevices end least (map (moved_device moves) ds)
  devices_lawful least [] are below = tt
  devices_lawful least (d ∷ ds) are below = (
    device_lawful least d are.0 (all_first GoesBelow (data_of d.mappings) (devices_data ds) below),
    devices_lawful (d.id + 1) ds are.1 (all_last GoesBelow (data_of d.mappings) (devices_data ds) below),
  )

pub pool_lawful : (m : ThinPool) (end : ℕ) (free : List ℕ) → IsLawfulPool m → IsMoving m end free → IsLawfulPool (moved_pool m end (moves_to (sources m end) free))
unfolding moved_pool
pool_lawful m end free lawful moving =
    let moves = moves_to (sources m end) free in
    record {
      uuid_len = lawful.uuid_len;
      uuid_bytes = lawful.uuid_bytes;
      time_fits = lawful.time_fits;
      transaction_fits = lawful.transaction_fits;
      block_size_fits = lawful.block_size_fits;
      data_blocks_fit = le_trans moving.end_within lawful.data_blocks_fit;
      devices =
          devices_lawful moves m.data_blocks end 0 m.devices lawful.devices
          (all_from_two (IsNamed m) (λ d. d < m.data_blocks) (λ d. moved_to moves d < end)
          (λ d named within. moved_below end d (sources m end) free moving.below moving.enough (moved_or_below m end d named within))
          (mapped_data m) (members (IsNamed m) (mapped_data m) (λ d among. among)) (devices_within m.data_blocks 0 m.devices lawful.devices));
    }
