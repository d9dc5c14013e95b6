-- Sharing is seen in each pool that was made so, and a lawful pool in which it is seen stays as it is.
use Rattle.std.proofs.Common.{◌≡◌, inl, inr, ℕ, ◌+◌, ◌<◌, ◌≤◌, max, min, Bool, true, not, ◌&&◌, List, [], ◌∷◌, map, filter, refl, sym, ap, ap₂, subst, ◌∙◌, arith}
use Rattle.std.specs.List.{AllByRecursion, Contains, count_by}
use Rattle.std.specs.Prelude.{fold}
use Rattle.std.proofs.lemmas.Bool.{and_from, and_parts, both_ways, cases_Bool, eq-eqb, eqb-true, lt-ltb, ltb-true, not-true}
use Rattle.std.proofs.lemmas.List.Elements.{recursion_from_All}
use Rattle.pd_kinds.specs.Meaning.{Mapping, ThinDevice, ThinPool}
use Rattle.pd_grammar.specs.Lawful.{IsLawfulPool}
use Rattle.pd_grammar.specs.Need.{mapped_data}
use Rattle.pd_answers.specs.Searches.{greatest_time, is_shared, seen_device, seen_pool, seen_snap, seen_time}
use Rattle.pd_kept.proofs.BoundLemmas.{Below, below_greatest, greatest_below}
use Rattle.pd_laws_answers.specs.Sharing.{IsShared, IsTimely, MappingPlace, SharingIsSeen}
use Rattle.pd_laws_answers.proofs.SpotLemmas.{Has, Spot, all_has, among, count_of_spots, has, has_kept, has_mapped, has_spot, in_parts, is_at, is_mapped, leads_to, one_of_all, passing, spot, spots, stands_at, two_counted}

-- the time of a snap is above that of each shared mapping
abbrev past : Mapping → ℕ
past x = x.time + 1

pub after_shared : (places : List ℕ) (d : ThinDevice) (x : Mapping) → Has d.mappings x → is_shared places x ≡ true → x.time < seen_snap places d
unfolding seen_snap
after_shared places d x here shared =
    let most = fold max d.snapped (map past (filter (is_shared places) d.mappings)) in
    let each = (below_greatest d.snapped most (map past (filter (is_shared places) d.mappings)) (omega arith)).1 in
    let low = all_has (λ t. t ≤ most) (map past (filter (is_shared places) d.mappings)) (past x) each
    (has_mapped past (filter (is_shared places) d.mappings) x (has_kept (is_shared places) d.mappings x here shared)) in
    omega (arith, low)

-- two places that lead to a data block, and are apart, count two
shared_if_two : (m : ThinPool) (d e : ThinDevice) (x y : Mapping) → Has m.devices d → Has d.mappings x → Has m.devices e → Has e.mappings y
    → ((e.id ≡ d.id) × (y.virtual_block ≡ x.virtual_block) → ⊥) → y.data_block ≡ x.data_block → is_shared (mapped_data m) x ≡ true
shared_if_two m d e x y of here other_of other apart same =
    let two = two_counted (leads_to x.data_block) (spots m.devices) (spot d x) (spot e y) (has_spot m.devices d x of here) (has_spot m.devices e y other_of other)
    (λ are. apart (sym (ap (λ (s : Spot). s.id) are), sym (ap (λ (s : Spot). s.virtual_block) are)))
    (eq-eqb x.data_block x.data_block refl) (eq-eqb y.data_block x.data_block same) in
    lt-ltb 1 _ (omega (arith, count_of_spots x.data_block m.devices, two))

-- a place in a pool that was made so comes from one of the pool
record ComesFrom (m : ThinPool) (place : MappingPlace (seen_pool m)) : Type 0 where
  device : ThinDevice
  of : Has m.devices device
  here : Has device.mappings place.mapping
  is : seen_device (mapped_data m) device ≡ place.device

comes_from : (m : ThinPool) (place : MappingPlace (seen_pool m)) → ComesFrom m place
unfolding seen_pool
comes_from m place =
    let from = is_mapped (seen_device (mapped_data m)) m.devices place.device (has _ place.device place.of_pool) in
    record {
      device = from.item;
      of = from.here;
      here = has from.item.mappings place.mapping (subst (λ (d : ThinDevice). Contains d.mappings place.mapping) (sym from.is) place.of_device);
      is = from.is;
    }

pub sees_sharing : (m : ThinPool) → SharingIsSeen (seen_pool m)
sees_sharing m place shared =
    let from = comes_from m place in
    let other = comes_from m shared.other in
    let id : from.device.id ≡ place.device.id = ap (λ (d : ThinDevice). d.id) from.is in
    let other_id : other.device.id ≡ shared.other.device.id = ap (λ (d : ThinDevice). d.id) other.is in
    let snapped : seen_snap (mapped_data m) from.device ≡ place.device.snapped = ap (λ (d : ThinDevice). d.snapped) from.is in
    let is = shared_if_two m from.device other.device place.mapping shared.other.mapping from.of from.here other.of other.here
    (λ same. shared.apart (sym other_id ∙ (same.0 ∙ id), same.1)) shared.same in
    subst (λ (t : ℕ). place.mapping.time < t) snapped (after_shared (mapped_data m) from.device place.mapping from.here is)

-- a mapping whose data block counts two shares it with another place
module _ (m : ThinPool) (lawful : IsLawfulPool m) where
  abbrev is_other : ThinDevice → Mapping → Spot → Bool
  is_other d x s = leads_to x.data_block s && not (is_at d.id x.virtual_block s)

  other_spot : (d : ThinDevice) (x : Mapping) → is_shared (mapped_data m) x ≡ true → 1 ≤ count_by (is_other d x) (spots m.devices)
  other_spot d x shared =
      let two = ltb-true 1 _ shared in
      omega (arith, two, count_of_spots x.data_block m.devices, in_parts (leads_to x.data_block) (is_at d.id x.virtual_block) (spots m.devices), one_of_all d.id x.virtual_block m.data_blocks 0 m.devices lawful.devices)

  abbrev pub place_at : (d : ThinDevice) (x : Mapping) → Has m.devices d → Has d.mappings x → MappingPlace m
  place_at d x of here = record { device = d; mapping = x; of_pool = among m.devices d of; of_device = among d.mappings x here }

  is_shared_place : (d : ThinDevice) (x : Mapping) (of : Has m.devices d) (here : Has d.mappings x) → is_shared (mapped_data m) x ≡ true → IsShared (place_at d x of here)
  is_shared_place d x of here shared =
      let found = passing (is_other d x) (spots m.devices) (other_spot d x shared) in
      let stands = stands_at m.devices found.item found.here in
      let tests = and_parts (leads_to x.data_block found.item) (not (is_at d.id x.virtual_block found.item)) found.passes in
      let id : stands.device.id ≡ found.item.id = ap (λ (s : Spot). s.id) stands.is in
      let at : stands.mapping.virtual_block ≡ found.item.virtual_block = ap (λ (s : Spot). s.virtual_block) stands.is in
      let leads : stands.mapping.data_block ≡ found.item.data_block = ap (λ (s : Spot). s.data_block) stands.is in
      record {
        other = place_at stands.device stands.mapping stands.of stands.here;
        apart = λ same. both_ways (is_at d.id x.virtual_block found.item) (not-true _ tests.1)
            (and_from _ _ (eq-eqb found.item.id d.id (sym id ∙ same.0)) (eq-eqb found.item.virtual_block x.virtual_block (sym at ∙ same.1)));
        same = leads ∙ eqb-true found.item.data_block x.data_block tests.0;
      }

  module _ (seen : SharingIsSeen m) where
    -- so no device is snapped later
    snaps_below : (d : ThinDevice) → Has m.devices d → (xs : List Mapping) → ((x : Mapping) → Has xs x → Has d.mappings x)
        → Below d.snapped (map past (filter (is_shared (mapped_data m)) xs))
    snaps_below d of [] all = tt
    snaps_below d of (x ∷ xs) all = elim (cases_Bool (is_shared (mapped_data m) x)) [
      | inl shared ↦
          let time = seen (place_at d x of (all x (inl refl))) (is_shared_place d x of (all x (inl refl)) shared) in
          rw shared (omega (arith, time), snaps_below d of xs (λ y later. all y (inr later)))
      | inr alone ↦ rw alone (snaps_below d of xs (λ y later. all y (inr later)))
    ]

    snap_stays : (d : ThinDevice) → Has m.devices d → seen_snap (mapped_data m) d ≡ d.snapped
    unfolding seen_snap
    snap_stays d of =
        let shared = map past (filter (is_shared (mapped_data m)) d.mappings) in
        let most = fold max d.snapped shared in
        omega (arith, greatest_below d.snapped d.snapped shared (omega arith) (snaps_below d of d.mappings (λ x here. here)), (below_greatest d.snapped most shared (omega arith)).0)

    device_stays : (d : ThinDevice) → Has m.devices d → seen_device (mapped_data m) d ≡ d
    device_stays d of = ap (snapped_at d) (snap_stays d of)
      where
        snapped_at : ThinDevice → ℕ → ThinDevice
        snapped_at d t = record { id = d.id; mapped = d.mapped; transaction = d.transaction; created = d.created; snapped = t; mappings = d.mappings }

    devices_stay : (ds : List ThinDevice) → ((d : ThinDevice) → Has ds d → Has m.devices d) → map (seen_device (mapped_data m)) ds ≡ ds
    devices_stay [] all = refl
    devices_stay (d ∷ ds) all = ap₂ (λ (e : ThinDevice) (es : List ThinDevice). e ∷ es) (device_stays d (all d (inl refl))) (devices_stay ds (λ e later. all e (inr later)))

    -- nor is the pool's time
    latest_within : (a : ℕ) (ds : List ThinDevice) → ((d : ThinDevice) → Has ds d → Has m.devices d) → min a greatest_time ≤ m.time
        → AllByRecursion (λ (d : ThinDevice). min d.snapped greatest_time ≤ m.time) ds → min (fold max a (map (seen_snap (mapped_data m)) ds)) greatest_time ≤ m.time
    latest_within a [] all first each = first
    latest_within a (d ∷ ds) all first each =
        let same = snap_stays d (all d (inl refl)) in
        let here = each.0 in
        latest_within (max a (seen_snap (mapped_data m) d)) ds (λ e later. all e (inr later)) (omega (arith, same, first, here)) each.1

    pub pool_stays : IsTimely m → seen_pool m ≡ m
    unfolding seen_pool seen_time
    pool_stays timely =
        let time = latest_within 0 m.devices (λ d here. here) (omega arith) (recursion_from_All (λ (d : ThinDevice). min d.snapped greatest_time ≤ m.time) m.devices timely) in
        ap₂ made (omega (arith, time)) (devices_stay m.devices (λ d here. here))
      where
        made : ℕ → List ThinDevice → ThinPool
        made t ds = record { uuid = m.uuid; time = t; transaction = m.transaction; block_size = m.block_size; data_blocks = m.data_blocks; devices = ds }
