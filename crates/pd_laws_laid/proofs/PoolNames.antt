-- How often the blocks of a pool are named: a shared leaf as often as it is used, each other block before the metadata map once.
use Rattle.std.proofs.Common.{◌≡◌, ◌⊎◌, inl, inr, ℕ, zero, suc, ◌+◌, ◌-◌, ◌^◌, ◌<◌, ◌≤◌, true, false, nat_eq, nat_le, List, [], ◌∷◌, ◌++◌, length, map, refl, sym, ◌∙◌, ap, arith, Bool, not, zero-add}
use Rattle.std.specs.List.{count_by, flat_map, list_any, range_with_len}
use Rattle.std.proofs.lemmas.Bool.{cases_Bool, cases_lt, lt-ltb, le-ltb, lt-leb, le-leb, true≢false, ne_eqb}
use Rattle.std.proofs.lemmas.List.{length-append, length-map}
use Rattle.pd_kinds.proofs.NumberLemmas.{range_split}
use Rattle.pd_kinds.proofs.CleanLemmas.{all_of_range}
use Rattle.pd_kinds.specs.Bitmap.{bitmaps_for}
use Rattle.pd_kinds.specs.Layout.{plain_tree}
use Rattle.pd_grammar.specs.Need.{overflows_in, need_tree}
use Rattle.pd_laid.specs.Laid.{count_in, laid_leaf, named_by, meta_overflow, tree_of, laid_bitmaps, laid_meta_map, meta_counts, meta_map_number, meta_overflow_at, meta_overflow_blocks}
use Rattle.pd_laid.specs.LaidThin.{device_blocks, devices_at, laid_devices, mapping_items, mappings, meta_map_at, pool_named, shared_items, meta_map_blocks}
use Rattle.pd_laid.specs.Shape.{IsShape, ThinShape, uses_of}
use Rattle.pd_laid.proofs.Rows.{entries_of}
use Rattle.pd_laid.specs.PoolText.{used_often}
use Rattle.pd_laid.proofs.NeedLemmas.{length-bitmaps, length-tree}
use Rattle.pd_laws_laid.specs.Once.{ones_below}
use Rattle.pd_laws_laid.proofs.OnceTrees.{count-append, count_range, none_named, leaves_named, named-append}
use Rattle.pd_laws_laid.proofs.Pool.{named_with}
use Rattle.pd_laws_laid.specs.Shared.{named_times, used_times}
use Rattle.pd_laws_laid.proofs.DataCounts.{behind_first, count_both, count_outside, count_shift, length-overflow, none_counted, range_has, range_lacks, shifted_range, same_count}
use Rattle.pd_laws_laid.proofs.DeviceNames.{all_uses_below, devices_names, range_both}
use Rattle.pd_laws_laid.proofs.MapLemmas.{ones_allocated}

-- a used leaf is counted
pub used_once : (uses : List ℕ) (k : ℕ) → list_any (λ used. nat_eq used k) uses ≡ true → 1 ≤ count_in uses k
used_once uses k used = counted uses used
  where
    counted : (uses : List ℕ) → list_any (λ used. nat_eq used k) uses ≡ true → 1 ≤ count_in uses k
    counted [] used = absurd (true≢false (sym used))
    counted (u ∷ uses) used = elim (cases_Bool (nat_eq u k)) [
      | inl here ↦ let first = count-append (u ∷ []) uses k in let one : count_in (u ∷ []) k ≡ 1 = rw here refl in omega (arith, first, one)
      | inr other ↦ let first = count-append (u ∷ []) uses k in let rest = counted uses (rw other at used) in omega (arith, first, rest)
    ]

module _ (w : ThinShape) where
  abbrev pub uses : List ℕ
  uses = flat_map uses_of w.devices

  abbrev pub number : ℕ
  number = length w.leaves

  shared_number : length (map (laid_leaf 3 (mappings w)) (shared_items w)) ≡ number
  shared_number = length-map (shared_items w) (laid_leaf 3 (mappings w)) ∙ length-map w.leaves mapping_items

  device_number : length (device_blocks w) ≡ number + length (laid_devices (mappings w) (shared_items w) (devices_at w) w.devices)
  unfolding device_blocks
  device_number =
      let leaves = map (laid_leaf 3 (mappings w)) (shared_items w) in
      let both = length-append leaves (laid_devices (mappings w) (shared_items w) (devices_at w) w.devices) in
      let first = shared_number in
      omega (arith, both, first)

  pub leaves_before_map : number < meta_map_at w
  leaves_before_map = let size = device_number in omega (arith, size)

  -- the leaves name nothing themselves
  shared_named : named_by (device_blocks w) ≡ named_by (laid_devices (mappings w) (shared_items w) (devices_at w) w.devices)
  unfolding device_blocks
  shared_named =
      let leaves = map (laid_leaf 3 (mappings w)) (shared_items w) in
      let devices = laid_devices (mappings w) (shared_items w) (devices_at w) w.devices in
      named-append leaves devices
      ∙ ap (λ (front : List ℕ). front ++ named_by devices) (leaves_named 3 (mappings w) (shared_items w) ∙ none_named (entries_of (shared_items w)))

  -- all names: each block before the map once, but the leaves as often as they are used
  sums : meta_map_at w ≤ 2 ^ 64 → (b : ℕ)
      → count_in (pool_named w) b + count_in (range_with_len 1 number) b ≡ count_in (range_with_len 0 (meta_map_at w)) b + count_in (behind_first uses) b
  sums fits b =
      let devices = laid_devices (mappings w) (shared_items w) (devices_at w) w.devices in
      let size = device_number in
      let whole = named_with w b fits in
      let named = ap (λ (names : List ℕ). count_in names b) shared_named in
      let trees = devices_names (mappings w) none_named (shared_items w) (devices_at w) w.devices b (omega arith) in
      let places = ap (λ (n : ℕ). count_in (range_with_len 1 n) b) size ∙ range_both 1 number (length devices) b in
      omega (arith, whole, named, trees, places)

  -- a leaf's block, and any other
  pub leaf_times : IsShape w → meta_map_at w ≤ 2 ^ 64 → (k : ℕ) → k < number → count_in (pool_named w) (suc k) ≡ used_times uses k
  leaf_times is fits k within =
      let all = sums fits (suc k) in
      let used = count_shift uses k in
      let before = leaves_before_map in
      let one = range_has (meta_map_at w) (suc k) (omega arith) in
      let leaf = leaf_one number k within in
      omega (arith, all, used, one, leaf)
    where
      leaf_one : (n k : ℕ) → k < n → count_in (range_with_len 1 n) (suc k) ≡ 1
      leaf_one n k within =
          let both = range_both 0 1 n (suc k) in
          let whole = range_has (1 + n) (suc k) (omega arith) in
          let first = range_lacks 1 (suc k) (omega arith) in
          omega (arith, both, whole, first)

  pub other_times : IsShape w → meta_map_at w ≤ 2 ^ 64 → (b : ℕ) → (b ≡ 0) ⊎ (number < b) → count_in (pool_named w) b ≡ ones_below (meta_map_at w) b
  unfolding ones_below
  other_times is fits b outside =
      let all = sums fits b in
      let used = count_outside uses number b (all_uses_below number w.devices is.pieces) outside in
      let ones = count_range (meta_map_at w) b in
      let leaf = leaf_none number b outside in
      omega (arith, all, used, leaf) ∙ ones
    where
      leaf_none : (n b : ℕ) → (b ≡ 0) ⊎ (n < b) → count_in (range_with_len 1 n) b ≡ 0
      leaf_none n b outside =
          let both = range_both 0 1 n b in
          elim outside [
            | inl none ↦
                let whole = range_has (1 + n) b (omega arith) in
                let first = range_has 1 b (omega arith) in
                omega (arith, both, whole, first)
            | inr above ↦
                let whole = range_lacks (1 + n) b (omega arith) in
                let first = range_lacks 1 b (omega arith) in
                omega (arith, both, whole, first)
          ]

  -- the law's count, in the two cases
  leaf_named : (k : ℕ) → k < number → named_times (used_times uses) number (meta_map_at w) (suc k) ≡ used_times uses k
  unfolding named_times
  leaf_named k within = rw (le-leb 1 (suc k) (omega arith), le-leb (suc k) number (omega arith)) (ap (used_times uses) (omega arith))

  other_named : (b : ℕ) → (b ≡ 0) ⊎ (number < b) → named_times (used_times uses) number (meta_map_at w) b ≡ ones_below (meta_map_at w) b
  unfolding named_times
  other_named b outside = elim outside [
    | inl none ↦ rw (lt-leb 1 b (omega arith)) refl
    | inr above ↦ rw (le-leb 1 b (omega arith), lt-leb b number above) refl
  ]

  -- which of the two a block is
  pub which : (b : ℕ) → ((k : ℕ) × (k < number) × (b ≡ suc k)) ⊎ ((b ≡ 0) ⊎ (number < b))
  which zero = inr (inl refl)
  which (suc k) = elim (cases_lt k number) [
    | inl below ↦ inl (k, below, refl)
    | inr above ↦ inr (inr (omega arith))
  ]

  pub named_are : IsShape w → meta_map_at w ≤ 2 ^ 64 → (b : ℕ) → count_in (pool_named w) b ≡ named_times (used_times uses) number (meta_map_at w) b
  named_are is fits b = elim (which b) [
    | inl leaf ↦ rw leaf.2 (leaf_times is fits leaf.0 leaf.1 ∙ sym (leaf_named leaf.0 leaf.1))
    | inr outside ↦ other_times is fits b outside ∙ sym (other_named b outside)
  ]

  -- the counts that the map's overflow tree has
  few_ones : (end b : ℕ) → nat_le 3 (ones_below end b) ≡ false
  unfolding ones_below
  few_ones end b = elim (cases_lt b end) [
    | inl below ↦ rw (lt-ltb b end below) refl
    | inr above ↦ rw (le-ltb b end above) refl
  ]

  pub overflow_are : IsShape w → meta_map_at w ≤ 2 ^ 64 → (n : ℕ) → number < n → length (meta_overflow n (pool_named w)) ≡ used_often uses number
  unfolding overflows_in used_often
  overflow_are is fits n room =
      let many = λ (b : ℕ). nat_le 3 (count_in (pool_named w) b) in
      let often = λ (k : ℕ). nat_le 3 (used_times uses k) in
      let rest = n - 1 - number in
      let whole : n ≡ 1 + (number + rest) = omega arith in
      let split = ap (λ (size : ℕ). count_by many (range_with_len 0 size)) whole
      ∙ (ap (λ (range : List ℕ). count_by many range) (range_split 0 1 (number + rest))
      ∙ count_both many (range_with_len 0 1) (range_with_len 1 (number + rest))) in
      let later = ap (λ (range : List ℕ). count_by many range) (range_split 1 number rest) ∙ count_both many (range_with_len 1 number) (range_with_len (1 + number) rest) in
      let first : count_by many (range_with_len 0 1) ≡ 0 =
      none_counted many (range_with_len 0 1) (all_of_range (λ b. many b ≡ false) 0 1 (λ b low high. few b (inl (omega arith)))) in
      let last : count_by many (range_with_len (1 + number) rest) ≡ 0 =
      none_counted many (range_with_len (1 + number) rest) (all_of_range (λ b. many b ≡ false) (1 + number) rest (λ b low high. few b (inr (omega arith)))) in
      let here : count_by many (range_with_len 1 number) ≡ count_by often (range_with_len 0 number) =
      shifted_range many often 0 number (λ k low high. ap (λ (times : ℕ). nat_le 3 times) (leaf_times is fits k (omega arith))) in
      length-overflow (count_in (pool_named w)) n ∙ omega (arith, split, later, first, last, here)
    where
      few : (b : ℕ) → (b ≡ 0) ⊎ (number < b) → nat_le 3 (count_in (pool_named w) b) ≡ false
      few b outside = rw (other_times is fits b outside) (few_ones (meta_map_at w) b)

-- What the metadata map of a pool with shared leaves stores: a count for each block up to its own end.

module _ (w : ThinShape) (n : ℕ) where
  abbrev place : ℕ
  place = meta_map_at w

  abbrev size : ℕ
  size = meta_map_number 8 n place (pool_named w)

  -- how many blocks the map has
  map_tree : length (meta_overflow_blocks 8 n place (pool_named w)) ≡ need_tree 4 (length (meta_overflow n (pool_named w)))
  unfolding meta_overflow_blocks
  map_tree = length-tree 10 (tree_of (plain_tree 4)) (meta_overflow_at n place) (meta_overflow n (pool_named w))

  map_blocks : length (meta_map_blocks w n) ≡ size
  unfolding meta_map_blocks laid_meta_map
  map_blocks =
      let counts = meta_counts 8 n place (pool_named w) in
      let both = length-append (laid_bitmaps 9 counts n) (meta_overflow_blocks 8 n place (pool_named w)) in
      let first = length-bitmaps 9 counts n in
      omega (arith, both, first)

  pub map_number : length (meta_map_blocks w n) ≡ 1 + (bitmaps_for n + need_tree 4 (length (meta_overflow n (pool_named w))))
  map_number = let blocks = map_blocks in let tree = map_tree in omega (arith, blocks, tree)

  module _ (is : IsShape w) (fits : meta_map_at w ≤ 2 ^ 64) where
    -- a block has a count where it stands before the map's end
    abbrev has_count : ℕ → Bool
    has_count b = not (nat_eq (meta_counts 8 n place (pool_named w) b) 0)

    abbrev is_before : ℕ → Bool
    is_before b = not (nat_eq (ones_below (place + size) b) 0)

    stored : (b : ℕ) → meta_counts 8 n place (pool_named w) b ≡ count_in (pool_named w) b + count_in (range_with_len place size) b
    unfolding meta_counts
    stored b = count-append (pool_named w) (range_with_len place size) b

    ones_split : (b : ℕ) → ones_below (place + size) b ≡ ones_below place b + count_in (range_with_len place size) b
    unfolding ones_below
    ones_split b =
        let both = range_both 0 place size b in
        let start = ap (λ (from : ℕ). count_in (range_with_len from size) b) (zero-add place) in
        let whole = count_range (place + size) b in
        let first = count_range place b in
        omega (arith, both, start, whole, first)

    one_below : (b : ℕ) → b < place + size → ones_below (place + size) b ≡ 1
    unfolding ones_below
    one_below b below = rw (lt-ltb b (place + size) below) refl

    same_blocks : (b : ℕ) → has_count b ≡ is_before b
    same_blocks b = elim (which w b) [
      | inl leaf ↦
          let split = stored (suc leaf.0) in
          let times = leaf_times w is fits leaf.0 leaf.1 in
          let some = used_once (uses w) leaf.0 (is.used leaf.0 leaf.1) in
          let before = leaves_before_map w in
          let within = leaf.1 in
          let one = one_below (suc leaf.0) (omega arith) in
          rw leaf.2 (rw (one, ne_eqb (meta_counts 8 n place (pool_named w) (suc leaf.0)) 0 (λ e. omega arith)) refl)
      | inr outside ↦
          let same : meta_counts 8 n place (pool_named w) b ≡ ones_below (place + size) b =
          let split = stored b in let times = other_times w is fits b outside in let ones = ones_split b in omega arith in
          ap (λ (count : ℕ). not (nat_eq count 0)) same
    ]

    pub allocated_are : place + length (meta_map_blocks w n) ≤ n → count_by (λ b. has_count b) (range_with_len 0 n) ≡ place + length (meta_map_blocks w n)
    allocated_are room =
        let blocks = map_blocks in
        same_count has_count is_before (range_with_len 0 n) (all_of_range (λ b. has_count b ≡ is_before b) 0 n (λ b low high. same_blocks b))
        ∙ (ones_allocated (place + size) n (omega arith) ∙ omega arith)
