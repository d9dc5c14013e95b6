-- How often data blocks are used, as it is counted and as the meaning of a pool has it.
use Rattle.std.proofs.Common.{◌≡◌, ℕ, suc, ◌+◌, ◌<◌, ◌≤◌, Bool, true, false, ◌&&◌, cond, nat_eq, List, [], ◌∷◌, ◌++◌, map, filter, length, refl, sym, ap, ◌∙◌, arith, inl, inr, eq-eqb, length-append}
use Rattle.std.specs.List.{AllByRecursion, IsDistinct, count_by, flat_map, list_any}
use Rattle.std.proofs.lemmas.Bool.{cases_Bool, cases_eq, lt-ltb, ne_eqb, true≢false}
use Rattle.std.proofs.lemmas.List.{map-append}
use Rattle.std.proofs.lemmas.List.Elements.{filter-append}
use Rattle.std.proofs.lemmas.List.Sums.{length-filter}
use Rattle.std.proofs.lemmas.Simd.{map-map}
use Rattle.pd_kinds.specs.Meaning.{Mapping, ThinDevice, ThinPool}
use Rattle.pd_answers.specs.QueryLines.{is_exclusive, mapped_blocks}
use Rattle.pd_meaning_thin.specs.declared.devices.DeviceRow.{DeviceRow}
use Rattle.pd_meaning_thin.specs.Given.{device_of}
use Rattle.pd_meaning_thin.specs.Runs.{mappings_below}
use Rattle.pd_uses.specs.declared.hits.DataUse.{DataUse}
use Rattle.pd_uses.specs.ListWalk.{is_alone, number_at, placed, rows_placed, times}
use Rattle.pd_uses.specs.Uses.{number_of_uses, row_uses, rows_uses, use_by}

-- how many pass a test where there is one more
pub number_more : {X : Type 0} → (p : X → Bool) (xs : List X) (x : X) → length (filter p (xs ++ (x ∷ []))) ≡ length (filter p xs) + cond (p x) 1 0
number_more p xs x = ap length (filter-append p xs (x ∷ [])) ∙ (length-append (filter p xs) (filter p (x ∷ [])) ∙ ap (λ n. length (filter p xs) + n) (one_alone (p x)))
  where
    one_alone : (passes : Bool) → length (cond passes (x ∷ []) []) ≡ cond passes 1 0
    one_alone true = refl
    one_alone false = refl

-- and in two lists
pub number_of_both : {X : Type 0} → (p : X → Bool) (xs ys : List X) → length (filter p (xs ++ ys)) ≡ length (filter p xs) + length (filter p ys)
number_of_both p xs ys = ap length (filter-append p xs ys) ∙ length-append (filter p xs) (filter p ys)

-- what passes a test of the values of a function
pub filter_mapped : {X Y : Type 0} → (f : X → Y) (p : Y → Bool) (xs : List X) → length (filter p (map f xs)) ≡ length (filter (λ x. p (f x)) xs)
filter_mapped f p [] = refl
filter_mapped f p (x ∷ xs) = elim (cases_Bool (p (f x))) [
  | inl passes ↦ rw passes (ap suc (filter_mapped f p xs))
  | inr fails ↦ rw fails (filter_mapped f p xs)
]

-- the data blocks of all mappings are those of the uses
mapped_rows : (image : List (List ℕ)) (rows : List DeviceRow)
    → flat_map (λ (device : ThinDevice). map (λ (m : Mapping). m.data_block) device.mappings) (map (device_of image) rows) ≡ map (λ (one : DataUse). one.block) (rows_uses image rows)
mapped_rows image [] = refl
mapped_rows image (row ∷ rows) =
    rw (mapped_rows image rows)
    (ap (λ (xs : List ℕ). xs ++ map (λ (one : DataUse). one.block) (rows_uses image rows)) (sym (map-map (λ (one : DataUse). one.block) (use_by row.id) (mappings_below image row.root)))
    ∙ sym (map-append (λ (one : DataUse). one.block) (row_uses image row) (rows_uses image rows)))

-- no two equal numbers where each stands there once at most
none_equal : (x : ℕ) (xs : List ℕ) → length (filter (λ y. nat_eq y x) xs) ≡ 0 → AllByRecursion (λ y. nat_eq x y ≡ false) xs
none_equal x [] none = tt
none_equal x (y ∷ xs) none = elim (cases_eq y x) [
  | inl same ↦ absurd (cc (rw (eq-eqb y x same) at none))
  | inr other ↦ (ne_eqb x y (λ same. other (sym same)), none_equal x xs (rw (ne_eqb y x other) at none))
]

pub distinct_if_once : (xs : List ℕ) → ((b : ℕ) → length (filter (λ y. nat_eq y b) xs) ≤ 1) → IsDistinct nat_eq xs
unfolding IsDistinct
distinct_if_once [] once = tt
distinct_if_once (x ∷ xs) once = (none_equal x xs (none_more (rw (eq-eqb x x refl) at (once x))), distinct_if_once xs (λ b. fewer (nat_eq x b) (filter (λ y. nat_eq y b) xs) (once b)))
  where
    none_more : {n : ℕ} → suc n ≤ 1 → n ≡ 0
    none_more most = omega arith

    fewer : (here : Bool) (kept : List ℕ) → length (cond here (x ∷ kept) kept) ≤ 1 → length kept ≤ 1
    fewer true kept most = omega arith
    fewer false kept most = most

-- one more on both sides, or on none
same_length : {X Y : Type 0} → (kept : Bool) (x : X) (y : Y) (xs : List X) (ys : List Y) → length xs ≡ length ys → length (cond kept (x ∷ xs) xs) ≡ length (cond kept (y ∷ ys) ys)
same_length true x y xs ys same = ap suc same
same_length false x y xs ys same = same

-- what stands among numbers below a bound
pub below_if_there : (n : ℕ) (xs : List ℕ) → AllByRecursion (λ x. x < n) xs → (q : ℕ) → list_any (nat_eq q) xs ≡ true → q < n
below_if_there n [] all q there = absurd (true≢false (sym there))
below_if_there n (x ∷ xs) all q there = elim (cases_eq q x) [
  | inl same ↦ let below = all.0 in omega arith
  | inr other ↦ below_if_there n xs all.1 q (rw (ne_eqb q x other) at there)
]

-- the uses by rows, with the places of the rows
module _ (image : List (List ℕ)) where
  times_of : (place b : ℕ) (rows : List DeviceRow) → times (rows_placed image place rows) b ≡ number_of_uses (rows_uses image rows) b
  times_of place b [] = refl
  times_of place b (row ∷ rows) =
      number_of_both (λ (one : ℕ × ℕ). nat_eq one.1 b) (placed place (row_uses image row)) (rows_placed image (suc place) rows)
      ∙ (rw (filter_mapped (λ (one : DataUse). (place, one.block)) (λ (one : ℕ × ℕ). nat_eq one.1 b) (row_uses image row), times_of (suc place) b rows)
      (sym (number_of_both (λ (one : DataUse). nat_eq one.block b) (row_uses image row) (rows_uses image rows))))

  module _ (kind : ℕ → Bool) where
    -- those by the row at a place
    here : (place : ℕ) (uses : List DataUse) → number_at place kind (placed place uses) ≡ length (filter (λ (one : DataUse). kind one.block) uses)
    here place uses = filter_mapped (λ (one : DataUse). (place, one.block)) (λ (one : ℕ × ℕ). nat_eq one.0 place && kind one.1) uses ∙ rw (eq-eqb place place refl) refl

    elsewhere : (place p : ℕ) → (place ≡ p → ⊥) → (uses : List DataUse) → number_at p kind (placed place uses) ≡ 0
    elsewhere place p other [] = refl
    elsewhere place p other (one ∷ uses) = rw (ne_eqb place p other) (elsewhere place p other uses)

    before : (place p : ℕ) → p < place → (rows : List DeviceRow) → number_at p kind (rows_placed image place rows) ≡ 0
    before place p less [] = refl
    before place p less (row ∷ rows) =
        omega (
          arith,
          number_of_both (λ (one : ℕ × ℕ). nat_eq one.0 p && kind one.1) (placed place (row_uses image row)) (rows_placed image (suc place) rows),
          elsewhere place p (λ same. omega (arith, same, less)) (row_uses image row),
          before (suc place) p (omega (arith, less)) rows,
        )

    pub number_of_first : (place : ℕ) (row : DeviceRow) (rows : List DeviceRow)
        → number_at place kind (rows_placed image place (row ∷ rows)) ≡ length (filter (λ (one : DataUse). kind one.block) (row_uses image row))
    number_of_first place row rows =
        omega (
          arith,
          number_of_both (λ (one : ℕ × ℕ). nat_eq one.0 place && kind one.1) (placed place (row_uses image row)) (rows_placed image (suc place) rows),
          here place (row_uses image row),
          before (suc place) place (omega arith) rows,
        )

    pub number_of_others : (place p : ℕ) → place < p → (row : DeviceRow) (rows : List DeviceRow)
        → number_at p kind (rows_placed image place (row ∷ rows)) ≡ number_at p kind (rows_placed image (suc place) rows)
    number_of_others place p less row rows =
        omega (
          arith,
          number_of_both (λ (one : ℕ × ℕ). nat_eq one.0 p && kind one.1) (placed place (row_uses image row)) (rows_placed image (suc place) rows),
          elsewhere place p (λ same. omega (arith, same, less)) (row_uses image row),
        )

module _ (image : List (List ℕ)) (pool : ThinPool) (size : ℕ) (all : List DeviceRow) (devices : pool.devices ≡ map (device_of image) all) where
  -- how often a block is mapped
  number_is : (b : ℕ) → count_by (λ (block : ℕ). nat_eq block b) (mapped_blocks pool) ≡ number_of_uses (rows_uses image all) b
  number_is b =
      sym (length-filter (λ (block : ℕ). nat_eq block b) (mapped_blocks pool))
      ∙ (ap (λ (xs : List ℕ). length (filter (λ (block : ℕ). nat_eq block b) xs)) (rw devices (mapped_rows image all))
      ∙ filter_mapped (λ (one : DataUse). one.block) (λ (block : ℕ). nat_eq block b) (rows_uses image all))

  -- a block that one use alone has is mapped once
  alone_is : (m : Mapping) → m.data_block < size → is_alone size (rows_placed image 0 all) m.data_block ≡ is_exclusive pool m
  alone_is m inside = rw (lt-ltb m.data_block size inside) (ap (λ n. nat_eq n 1) (times_of image 0 m.data_block all ∙ sym (number_is m.data_block)))

  -- so are those of a device
  pub alone_are : (id : ℕ) (mappings : List Mapping) → AllByRecursion (λ (m : Mapping). m.data_block < size) mappings
      → length (filter (λ (one : DataUse). is_alone size (rows_placed image 0 all) one.block) (map (use_by id) mappings)) ≡ length (filter (is_exclusive pool) mappings)
  alone_are id [] within = refl
  alone_are id (m ∷ mappings) within =
      rw (alone_is m within.0) (same_length (is_exclusive pool m) (use_by id m) m (filter (λ (one : DataUse). is_alone size (rows_placed image 0 all) one.block) (map (use_by id) mappings)) (filter (is_exclusive pool) mappings) (alone_are id mappings within.1))
