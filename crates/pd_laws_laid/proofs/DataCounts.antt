-- The data blocks that the leaves of a pool name are those that its leaves and its devices' own pieces tell.
use Rattle.std.proofs.Common.{◌≡◌, ◌⊎◌, inl, inr, ℕ, zero, suc, ◌+◌, ◌<◌, ◌≤◌, Bool, false, cond, not, nat_eq, nat_le, nat_lt, List, [], ◌∷◌, ◌++◌, length, map, filter, refl, sym, ◌∙◌, arith, ◌^◌, ap, ap₂, subst}
use Rattle.std.specs.List.{AllByRecursion, count_by, range_with_len, flat_map}
use Rattle.std.proofs.lemmas.Bool.{cases_eq, cases_lt, eq-eqb, ne_eqb, lt-ltb, le-ltb, lt-leb, le-leb}
use Rattle.std.proofs.lemmas.List.{length-map, append-nil, map-append}
use Rattle.std.proofs.lemmas.List.Sums.{sum_by-append, sum_by-cons, length-filter}
use Rattle.std.proofs.Math.Path.{fun_ext}
use Rattle.std.proofs.lemmas.Grind.{flat_map-append}
use Rattle.pd_kinds.proofs.CleanLemmas.{all_of_range}
use Rattle.pd_kinds.specs.Layout.{Tree}
use Rattle.pd_kinds.specs.Meaning.{Mapping}
use Rattle.pd_kinds.specs.Node.{Entry}
use Rattle.pd_kinds.specs.ThinFormat.{mapped_block, mappings_tree}
use Rattle.pd_kinds.proofs.ListLemmas.{all_append, all_from, all_mapped}
use Rattle.pd_grammar.specs.Lawful.{AreDevices, AreMappings, IsLawfulPool}
use Rattle.pd_grammar.specs.Need.{overflows_in}
use Rattle.pd_grammar.specs.ThinText.{Run}
use Rattle.pd_grammar.proofs.ThinLaws.{data_of as blocks_of_mappings}
use Rattle.pd_laid.specs.Laid.{count_in, overflow_items, LaidBlock, data_named_by, laid_inner, laid_leaf, tree_of}
use Rattle.pd_laid.specs.LaidThin.{data_counts, data_overflow, device_blocks, device_inners, device_leaves, devices_at, laid_device, laid_devices, mapping_items, own_leaves, shared_items, some_pieces}
use Rattle.pd_laid.specs.Shape.{IsShape, Piece, ShapeDevice, ThinShape, device_of, own, piece_mappings, pool_of, shared}
use Rattle.pd_laid.proofs.GatherLemmas.{HasTimes, data_of_items, items-append}
use Rattle.pd_laid.proofs.Rows.{entries_of}
use Rattle.pd_laid.specs.PoolText.{own_mappings, shape_data, mappings_of_runs}
use Rattle.pd_laid.proofs.LeafRuns.{IsLeaf, are_leaves}
use Rattle.pd_laid.proofs.ShapeText.{shape_spelled}
use Rattle.pd_laid.proofs.WholeNeed.{own_of as all_own}
use Rattle.pd_laws_laid.proofs.OnceTrees.{count_range, leaves_joined}

-- How often numbers stand in lists, shifted and in ranges.

-- numbers that are each one more
abbrev pub behind_first : List ℕ → List ℕ
behind_first xs = map (λ (k : ℕ). 1 + k) xs

same_test : (x b : ℕ) → nat_eq (1 + x) (suc b) ≡ nat_eq x b
same_test x b = elim (cases_eq x b) [
  | inl same ↦ let more : 1 + x ≡ suc b = omega arith in eq-eqb (1 + x) (suc b) more ∙ sym (eq-eqb x b same)
  | inr other ↦ ne_eqb (1 + x) (suc b) (λ e. other (omega arith)) ∙ sym (ne_eqb x b other)
]

pub count_shift : (xs : List ℕ) (b : ℕ) → count_in (behind_first xs) (suc b) ≡ count_in xs b
count_shift [] b = refl
count_shift (x ∷ xs) b =
    sum_by-cons (λ r. cond (nat_eq r (suc b)) 1 0) (1 + x) (behind_first xs)
    ∙ (rw (same_test x b, count_shift xs b) refl ∙ sym (sum_by-cons (λ r. cond (nat_eq r b) 1 0) x xs))

-- none of them is 0, nor above the number of those that there are
pub count_outside : (xs : List ℕ) (number b : ℕ) → AllByRecursion (λ k. k < number) xs → (b ≡ 0) ⊎ (number < b) → count_in (behind_first xs) b ≡ 0
count_outside [] number b below outside = refl
count_outside (x ∷ xs) number b below outside =
    let first = sum_by-cons (λ r. cond (nat_eq r b) 1 0) (1 + x) (behind_first xs) in
    let rest = count_outside xs number b below.1 outside in
    let within = below.0 in
    let differ : nat_eq (1 + x) b ≡ false = elim outside [
      | inl none ↦ ne_eqb (1 + x) b (λ e. omega arith)
      | inr above ↦ ne_eqb (1 + x) b (λ e. omega arith)
    ] in
    first ∙ rw (differ, rest) refl

-- so many numbers pass one test as another that says the same of each of them
pub same_count : (p q : ℕ → Bool) (xs : List ℕ) → AllByRecursion (λ x. p x ≡ q x) xs → count_by p xs ≡ count_by q xs
same_count p q [] same = refl
same_count p q (x ∷ xs) same =
    sum_by-cons (λ (y : ℕ). cond (p y) 1 0) x xs
    ∙ (rw (same.0, same_count p q xs same.1) refl ∙ sym (sum_by-cons (λ (y : ℕ). cond (q y) 1 0) x xs))

pub count_both : (p : ℕ → Bool) (xs ys : List ℕ) → count_by p (xs ++ ys) ≡ count_by p xs + count_by p ys
count_both p xs ys = sum_by-append (λ x. cond (p x) 1 0) xs ys

-- a range from 0 has each number below its end
pub range_has : (n b : ℕ) → b < n → count_in (range_with_len 0 n) b ≡ 1
range_has n b below = let one : cond {A = ℕ} (nat_lt b n) 1 0 ≡ 1 = rw (lt-ltb b n below) refl in count_range n b ∙ one

pub range_lacks : (n b : ℕ) → n ≤ b → count_in (range_with_len 0 n) b ≡ 0
range_lacks n b above = let none : cond {A = ℕ} (nat_lt b n) 1 0 ≡ 0 = rw (le-ltb b n above) refl in count_range n b ∙ none

-- where no number passes none is counted
pub none_counted : (p : ℕ → Bool) (xs : List ℕ) → AllByRecursion (λ x. p x ≡ false) xs → count_by p xs ≡ 0
none_counted p [] none = refl
none_counted p (x ∷ xs) none = sum_by-cons (λ (y : ℕ). cond (p y) 1 0) x xs ∙ rw (none.0, none_counted p xs none.1) refl

-- a range from the next number on
pub shifted_range : (p q : ℕ → Bool) (from n : ℕ) → ((k : ℕ) → from ≤ k → k < from + n → p (suc k) ≡ q k) → count_by p (range_with_len (suc from) n) ≡ count_by q (range_with_len from n)
shifted_range p q from zero same = refl
shifted_range p q from (suc n) same =
    let more : suc from + 1 ≡ suc (from + 1) = omega arith in
    let here = same from (omega arith) (omega arith) in
    let rest = shifted_range p q (from + 1) n (λ k low high. same k (omega arith) (omega arith)) in
    sum_by-cons (λ (y : ℕ). cond (p y) 1 0) (suc from) (range_with_len (suc from + 1) n)
    ∙ (rw (here, more, rest) refl ∙ sym (sum_by-cons (λ (y : ℕ). cond (q y) 1 0) from (range_with_len (from + 1) n)))

-- the counts that two bits don't hold are those of three or more
not_below_three : (c : ℕ) → not (nat_lt c 3) ≡ nat_le 3 c
not_below_three c = elim (cases_lt c 3) [
  | inl few ↦ rw (lt-ltb c 3 few) (sym (lt-leb 3 c few))
  | inr many ↦ rw (le-ltb c 3 many) (sym (le-leb 3 c many))
]

pub length-overflow : (counts : ℕ → ℕ) (n : ℕ) → length (overflow_items counts n) ≡ count_by (λ b. nat_le 3 (counts b)) (range_with_len 0 n)
unfolding overflow_items
length-overflow counts n =
    let many = λ (b : ℕ). not (nat_lt (counts b) 3) in
    length-map (filter many (range_with_len 0 n)) (λ (b : ℕ). record { key = b; value = counts b })
    ∙ (length-filter many (range_with_len 0 n)
    ∙ same_count many (λ b. nat_le 3 (counts b)) (range_with_len 0 n) (all_of_range (λ b. not (nat_lt (counts b) 3) ≡ nat_le 3 (counts b)) 0 n (λ b low high. not_below_three (counts b))))

-- lawful mappings have times of 24 bits
pub times_of_mappings : (blocks least : ℕ) (ms : List Mapping) → AreMappings blocks least ms → HasTimes ms
times_of_mappings blocks least [] are = tt
times_of_mappings blocks least (m ∷ ms) are = (are.0.time_fits, times_of_mappings blocks (m.virtual_block + 1) ms are.1)

-- those of devices' own pieces have, and those of the shared leaves
abbrev pub HasTime : Mapping → Type 0
HasTime m = m.time < 2 ^ 24

pub in_two : (P : Mapping → Type 0) (xs ys : List Mapping) → AllByRecursion P (xs ++ ys) → AllByRecursion P xs × AllByRecursion P ys
in_two P [] ys all = (tt, all)
in_two P (x ∷ xs) ys all = let rest = in_two P xs ys all.1 in ((all.0, rest.0), rest.1)

own_times : (leaves : List (List Mapping)) (pieces : List Piece) → HasTimes (flat_map (piece_mappings leaves) pieces) → HasTimes (flat_map own_mappings pieces)
own_times leaves [] times = tt
own_times leaves (own ms ∷ pieces) times =
    let both = in_two HasTime ms (flat_map (piece_mappings leaves) pieces) times in
    all_append HasTime ms (flat_map own_mappings pieces) both.0 (own_times leaves pieces both.1)
own_times leaves (shared k ∷ pieces) times =
    own_times leaves pieces (in_two HasTime (piece_mappings leaves (shared k)) (flat_map (piece_mappings leaves) pieces) times).1

devices_times : (blocks least : ℕ) (leaves : List (List Mapping)) (ds : List ShapeDevice) → AreDevices blocks least (map (device_of leaves) ds) → HasTimes (all_own ds)
devices_times blocks least leaves [] are = tt
devices_times blocks least leaves (d ∷ ds) are =
    all_append HasTime (flat_map own_mappings d.pieces) (all_own ds)
    (own_times leaves d.pieces (times_of_mappings blocks 0 (flat_map (piece_mappings leaves) d.pieces) are.0.mappings))
    (devices_times blocks (d.id + 1) leaves ds are.1)

pub leaves_times : (w : ThinShape) → IsShape w → IsLawfulPool (pool_of w) → AllByRecursion HasTimes w.leaves
leaves_times w is lawful =
    let spelled = shape_spelled w is lawful in
    let runs = spelled.means.leaves in
    let leaves = are_leaves w runs spelled.means.leaves_are spelled.means.leaf_runs is lawful in
    subst (λ (ls : List (List Mapping)). AllByRecursion HasTimes ls) spelled.means.leaves_are
    (all_mapped mappings_of_runs HasTimes runs
    (all_from (IsLeaf w.data_blocks) (λ (r : List Run). HasTimes (mappings_of_runs r)) (λ r leaf. times_of_mappings w.data_blocks 0 (mappings_of_runs r) leaf.mappings) runs leaves))

joined_times : (leaves : List (List Mapping)) → AllByRecursion HasTimes leaves → HasTimes (flat_map (λ ms. ms) leaves)
joined_times [] times = tt
joined_times (leaf ∷ leaves) times = all_append HasTime leaf (flat_map (λ ms. ms) leaves) times.0 (joined_times leaves times.1)

-- an entry of such a mapping names its data block
abbrev data_of : List Entry → List ℕ
data_of items = flat_map (λ (e : Entry). mapped_block e.value ∷ []) items

-- the entries of the shared leaves, and of own ones
shared_entries : (leaves : List (List Mapping)) → entries_of (map mapping_items leaves) ≡ mapping_items (flat_map (λ ms. ms) leaves)
unfolding mapping_items
shared_entries [] = refl
shared_entries (leaf ∷ leaves) =
    ap (λ (rest : List Entry). mapping_items leaf ++ rest) (shared_entries leaves) ∙ sym (items-append leaf (flat_map (λ ms. ms) leaves))

own_entries : (pieces : List Piece) → entries_of (flat_map own_leaves pieces) ≡ mapping_items (flat_map own_mappings pieces)
unfolding mapping_items
own_entries [] = refl
own_entries (own ms ∷ pieces) =
    flat_map-append (λ (node : List Entry). node) (own_leaves (own ms)) (flat_map own_leaves pieces)
    ∙ (ap₂ (λ (front back : List Entry). front ++ back) (leaves_joined 8 (mapping_items ms)) (own_entries pieces)
    ∙ sym (items-append ms (flat_map own_mappings pieces)))
own_entries (shared k ∷ pieces) = own_entries pieces

some_own : (pieces : List Piece) → flat_map own_mappings (some_pieces pieces) ≡ flat_map own_mappings pieces
some_own [] = refl
some_own (piece ∷ pieces) = refl

-- what laid blocks name
pub data-append : (xs ys : List LaidBlock) → data_named_by (xs ++ ys) ≡ data_named_by xs ++ data_named_by ys
unfolding data_named_by
data-append xs ys = flat_map-append (λ (b : LaidBlock). b.data_refs) xs ys

inners_data : (role : ℕ) (nodes : List (List Entry)) → data_named_by (map (laid_inner role) nodes) ≡ []
unfolding data_named_by
inners_data role [] = refl
inners_data role (node ∷ nodes) = inners_data role nodes

leaves_data : (role : ℕ) (t : Tree) (leaves : List (List Entry)) → data_named_by (map (laid_leaf role t) leaves) ≡ flat_map t.leaf_data (entries_of leaves)
unfolding data_named_by
leaves_data role t [] = refl
leaves_data role t (leaf ∷ leaves) =
    ap (λ (rest : List ℕ). flat_map t.leaf_data leaf ++ rest) (leaves_data role t leaves) ∙ sym (flat_map-append t.leaf_data leaf (entries_of leaves))

module _ (data_blocks : ℕ) (leaves : List (List Entry)) where
  abbrev t : Tree
  t = tree_of (mappings_tree data_blocks)

  device_data : (place : ℕ) (d : ShapeDevice) → HasTimes (flat_map own_mappings d.pieces)
      → data_named_by (laid_device t leaves place d) ≡ blocks_of_mappings (flat_map own_mappings d.pieces)
  unfolding laid_device
  device_data place d times =
      let mine = device_leaves d in
      let inners = device_inners leaves place d in
      data-append (map (laid_leaf 3 t) mine) (map (laid_inner 3) inners)
      ∙ (ap₂ (λ (front rest : List ℕ). front ++ rest)
      (leaves_data 3 t mine ∙ (ap data_of (own_entries (some_pieces d.pieces) ∙ ap mapping_items (some_own d.pieces)) ∙ data_of_items (flat_map own_mappings d.pieces) times))
      (inners_data 3 inners)
      ∙ append-nil (blocks_of_mappings (flat_map own_mappings d.pieces)))

  devices_data : (place : ℕ) (ds : List ShapeDevice) → HasTimes (all_own ds) → data_named_by (laid_devices t leaves place ds) ≡ blocks_of_mappings (all_own ds)
  unfolding laid_devices data_named_by
  devices_data place [] times = refl
  devices_data place (d ∷ ds) times =
      let here = laid_device t leaves place d in
      let mine = flat_map own_mappings d.pieces in
      let both = in_two HasTime mine (all_own ds) times in
      data-append here (laid_devices t leaves (place + length here) ds)
      ∙ (ap₂ (λ (front rest : List ℕ). front ++ rest) (device_data place d both.0) (devices_data (place + length here) ds both.1)
      ∙ sym (map-append (λ (m : Mapping). m.data_block) mine (all_own ds)))

-- where their times have 24 bits
module _ (w : ThinShape) (leaf_times : HasTimes (flat_map (λ (ms : List Mapping). ms) w.leaves)) (own_have : HasTimes (all_own w.devices)) where
  pool_data : data_named_by (device_blocks w) ≡ shape_data w
  unfolding device_blocks shape_data
  pool_data =
      let t = tree_of (mappings_tree w.data_blocks) in
      let joined = flat_map (λ (ms : List Mapping). ms) w.leaves in
      data-append (map (laid_leaf 3 t) (shared_items w)) (laid_devices t (shared_items w) (devices_at w) w.devices)
      ∙ (ap₂ (λ (front rest : List ℕ). front ++ rest)
      (leaves_data 3 t (shared_items w) ∙ (ap data_of (shared_entries w.leaves) ∙ data_of_items joined leaf_times))
      (devices_data w.data_blocks (shared_items w) (devices_at w) w.devices own_have)
      ∙ sym (map-append (λ (m : Mapping). m.data_block) joined (all_own w.devices)))

  pub counts_with : data_counts w ≡ count_in (shape_data w)
  unfolding data_counts
  counts_with = fun_ext (λ d. ap (λ (named : List ℕ). count_in named d) pool_data)

  pub overflows_with : length (data_overflow w) ≡ overflows_in (shape_data w) w.data_blocks
  unfolding overflows_in
  overflows_with =
      length-overflow (data_counts w) w.data_blocks
      ∙ ap (λ (counts : ℕ → ℕ). count_by (λ d. nat_le 3 (counts d)) (range_with_len 0 w.data_blocks)) counts_with

-- so of lawful shapes
module _ (w : ThinShape) (is : IsShape w) (lawful : IsLawfulPool (pool_of w)) where
  own_have : HasTimes (all_own w.devices)
  unfolding pool_of
  own_have = devices_times w.data_blocks 0 w.leaves w.devices lawful.devices

  pub counts_are : data_counts w ≡ count_in (shape_data w)
  counts_are = counts_with w (joined_times w.leaves (leaves_times w is lawful)) own_have

  pub overflows_are : length (data_overflow w) ≡ overflows_in (shape_data w) w.data_blocks
  overflows_are = overflows_with w (joined_times w.leaves (leaves_times w is lawful)) own_have
