-- What stands below a node: to a depth that no chain reaches, and in the range of each child.
use Rattle.std.proofs.Common.{◌≡◌, inl, inr, ℕ, zero, suc, ◌+◌, ◌<◌, ◌≤◌, Bool, true, false, not, ◌&&◌, nat_eq, nat_lt, List, [], ◌∷◌, ◌++◌, length, map, filter, refl, sym, ◌∙◌, ap, ap₂, cond, arith, ◌||◌, ◌^◌}
use Rattle.std.specs.List.{AllByRecursion, list_any, list_all, flat_map, range_with_len}
use Rattle.std.proofs.lemmas.Bool.{cases_Bool, cases_lt, both_ways, and_parts, or_parts, le-ltb, lt-ltb}
use Rattle.std.proofs.lemmas.Bool.Decides.{nat_tests}
use Rattle.std.proofs.lemmas.Grind.{flat_map-append}
use Rattle.std.proofs.lemmas.List.{map-append, append-nil, length-map}
use Rattle.std.proofs.lemmas.Nat.{div-mul-add}
use Rattle.pd_kinds.specs.Node.{Entry, entry_count, child_at, is_inner_node}
use Rattle.pd_kinds.specs.Graph.{has_chain, gathered, are_children_in_range, is_outside, block_at}
use Rattle.pd_kinds.proofs.KindsListLemmas.{all_first, all_last}
use Rattle.pd_kinds.proofs.ListLemmas.{all_of}
use Rattle.pd_kinds.specs.Meaning.{Mapping}
use Rattle.pd_kinds.specs.ThinFormat.{mapped_block}
use Rattle.pd_kinds.specs.Field.{mapping_code}
use Rattle.pd_laid.specs.Salvage.{is_damaged, child_low, child_high, salvaged_below, entries_of_visit, visits}
use Rattle.pd_laid.specs.LaidThin.{mapping_items}

-- numbers from one on, and below one
abbrev pub AreFrom : ℕ → List ℕ → Type 0
AreFrom low keys = AllByRecursion (λ k. low ≤ k) keys

abbrev pub AreBelow : ℕ → List ℕ → Type 0
AreBelow high keys = AllByRecursion (λ k. k < high) keys

pub from_test : (low : ℕ) (keys : List ℕ) → list_all (λ k. not (nat_lt k low)) keys ≡ true → AreFrom low keys
from_test low [] all = tt
from_test low (k ∷ keys) all =
    let parts = and_parts _ _ all in
    let first = parts.0 in
    (grind (arith, nat_tests), from_test low keys parts.1)

pub below_test : (high : ℕ) (keys : List ℕ) → list_all (λ k. nat_lt k high) keys ≡ true → AreBelow high keys
below_test high [] all = tt
below_test high (k ∷ keys) all =
    let parts = and_parts _ _ all in
    let first = parts.0 in
    (grind (arith, nat_tests), below_test high keys parts.1)

-- entries whose keys are in a range pass its test
pub kept_in_range : (low high : ℕ) (entries : List Entry) → AreFrom low (map (λ (e : Entry). e.key) entries) → AreBelow high (map (λ (e : Entry). e.key) entries)
    → filter (λ (e : Entry). not (nat_lt e.key low) && nat_lt e.key high) entries ≡ entries
kept_in_range low high [] from below = refl
kept_in_range low high (e ∷ entries) from below =
    rw (le-ltb e.key low from.0, lt-ltb e.key high below.0, kept_in_range low high entries from.1 below.1) refl

-- lists that are joined along a range
pub all_at : {X : Type 0} → (P : X → Type 0) (f : ℕ → List X) (a n k : ℕ) → AllByRecursion P (flat_map f (range_with_len a n)) → a ≤ k → k < a + n
    → AllByRecursion P (f k)
all_at P f a zero k all from below = absurd (omega arith)
all_at P f a (suc n) k all from below = elim (cases_lt a k) [
  | inl later ↦ all_at P f (a + 1) n k (all_last P (f a) (flat_map f (range_with_len (a + 1) n)) all) (omega arith) (omega arith)
  | inr here ↦ let same : a ≡ k = omega arith in rw same at (all_first P (f a) (flat_map f (range_with_len (a + 1) n)) all)
]

pub all_joined : {X : Type 0} → (P : X → Type 0) (f : ℕ → List X) (a n : ℕ) → ((k : ℕ) → a ≤ k → k < a + n → AllByRecursion P (f k))
    → AllByRecursion P (flat_map f (range_with_len a n))
all_joined P f a zero each = tt
all_joined P f a (suc n) each =
    both P (f a) (flat_map f (range_with_len (a + 1) n)) (each a (omega arith) (omega arith))
    (all_joined P f (a + 1) n (λ k from below. each k (omega arith) (omega arith)))
  where
    both : {X : Type 0} → (P : X → Type 0) (xs ys : List X) → AllByRecursion P xs → AllByRecursion P ys → AllByRecursion P (xs ++ ys)
    both P [] ys first last = last
    both P (x ∷ xs) ys first last = (first.0, both P xs ys first.1 last)

pub same_joined : {X : Type 0} → (f g : ℕ → List X) (a n : ℕ) → ((k : ℕ) → a ≤ k → k < a + n → f k ≡ g k)
    → flat_map f (range_with_len a n) ≡ flat_map g (range_with_len a n)
same_joined f g a zero each = refl
same_joined f g a (suc n) each =
    rw (each a (omega arith) (omega arith), same_joined f g (a + 1) n (λ k from below. each k (omega arith) (omega arith))) refl

-- lists that are joined along those that fail a test
same_where : {X : Type 0} → (test : ℕ → Bool) (f g : ℕ → List X) (ps : List ℕ) → list_any test ps ≡ false → ((p : ℕ) → test p ≡ false → f p ≡ g p)
    → flat_map f ps ≡ flat_map g ps
same_where test f g [] none each = refl
same_where test f g (p ∷ ps) none each =
    let parts = or_parts (test p) (list_any test ps) none in
    rw (each p parts.0, same_where test f g ps parts.1 each) refl

module _ {X : Type 0} (inner : ℕ → Bool) (down : ℕ → List ℕ) (own : ℕ → List X) where
  -- a leaf has its own, to any depth
  pub gathered_leaf : (j p : ℕ) → inner p ≡ false → gathered inner down own j p ≡ own p
  unfolding gathered
  gathered_leaf zero p leaf = rw leaf refl
  gathered_leaf (suc j) p leaf = rw leaf refl

  pub gathered_inner : (j p : ℕ) → inner p ≡ true → gathered inner down own (suc j) p ≡ flat_map (gathered inner down own j) (down p)
  unfolding gathered
  gathered_inner j p is = rw is refl

  nothing_below : (xs : List ℕ) → list_any (has_chain down 0) xs ≡ false → xs ≡ []
  unfolding has_chain
  nothing_below [] none = refl
  nothing_below (x ∷ xs) none = absurd (both_ways true none refl)

  -- a depth that no chain passes gives all
  pub stable : (i m p : ℕ) → i ≤ m → has_chain down (suc i) p ≡ false → gathered inner down own m p ≡ gathered inner down own i p
  unfolding gathered has_chain
  stable zero zero p within none = refl
  stable zero (suc m) p within none = rw (nothing_below (down p) none) refl
  stable (suc i) zero p within none = absurd (omega arith)
  stable (suc i) (suc m) p within none = elim (cases_Bool (inner p)) [
    | inl is ↦
        rw is (same_where (has_chain down (suc i)) (gathered inner down own m) (gathered inner down own i) (down p) none
        (λ q ends. stable i m q (omega arith) ends))
    | inr leaf ↦ rw leaf refl
  ]

-- what is joined of joined lists is joined of each
pub joined_twice : {X Y : Type 0} → (f : X → List Y) (g : ℕ → List X) (ns : List ℕ) → flat_map f (flat_map g ns) ≡ flat_map (λ n. flat_map f (g n)) ns
joined_twice f g [] = refl
joined_twice {X} {Y} f g (n ∷ ns) =
    flat_map-append f (g n) (flat_map g ns) ∙ ap (λ (rest : List Y). flat_map f (g n) ++ rest) (joined_twice f g ns)

pub map_joined : {X Y : Type 0} → (f : X → Y) (g : ℕ → List X) (ns : List ℕ) → map f (flat_map g ns) ≡ flat_map (λ n. map f (g n)) ns
map_joined f g [] = refl
map_joined {X} {Y} f g (n ∷ ns) = map-append f (g n) (flat_map g ns) ∙ ap (λ (rest : List Y). map f (g n) ++ rest) (map_joined f g ns)

pub same_each : {X Y : Type 0} → (f g : X → List Y) (xs : List X) → AllByRecursion (λ x. f x ≡ g x) xs → flat_map f xs ≡ flat_map g xs
same_each f g [] same = refl
same_each {X} {Y} f g (x ∷ xs) same = ap₂ (λ (front back : List Y). front ++ back) same.0 (same_each f g xs same.1)

-- what stands in leaves is what stands in each of them
module _ {X Y : Type 0} (f : X → List Y) (inner : ℕ → Bool) (down : ℕ → List ℕ) (own : ℕ → List X) where
  here_flat : (b : Bool) (p : ℕ) → cond b [] (flat_map f (own p)) ≡ flat_map f (cond b [] (own p))
  here_flat true p = refl
  here_flat false p = refl

  both_flat : (b : Bool) (xs : List Y) (ys : List X) (p : ℕ) → xs ≡ flat_map f ys → cond b xs (flat_map f (own p)) ≡ flat_map f (cond b ys (own p))
  both_flat true xs ys p same = same
  both_flat false xs ys p same = refl

  each_flat : (g : ℕ → List Y) (h : ℕ → List X) → ((q : ℕ) → g q ≡ flat_map f (h q)) → (qs : List ℕ) → flat_map g qs ≡ flat_map f (flat_map h qs)
  each_flat g h same [] = refl
  each_flat g h same (q ∷ qs) =
      ap₂ (λ (front back : List Y). front ++ back) (same q) (each_flat g h same qs) ∙ sym (flat_map-append f (h q) (flat_map h qs))

  pub gathered_flat : (j p : ℕ) → gathered inner down (λ q. flat_map f (own q)) j p ≡ flat_map f (gathered inner down own j p)
  unfolding gathered
  gathered_flat zero p = here_flat (inner p) p
  gathered_flat (suc j) p =
      both_flat (inner p) (flat_map (gathered inner down (λ q. flat_map f (own q)) j) (down p)) (flat_map (gathered inner down own j) (down p)) p
      (each_flat (gathered inner down (λ q. flat_map f (own q)) j) (gathered inner down own j) (gathered_flat j) (down p))

-- the range of child i of a node
pub child_range : (low : ℕ → ℕ) (keys : ℕ → List ℕ) (d n a : ℕ) → d < n → are_children_in_range (map low (range_with_len a n)) (map keys (range_with_len a n)) ≡ true
    → (list_all (λ k. not (nat_lt k (low (a + d)))) (keys (a + d)) ≡ true) × (d + 1 < n → list_all (λ k. nat_lt k (low (a + d + 1))) (keys (a + d)) ≡ true)
unfolding are_children_in_range
child_range low keys d zero a within is = absurd (omega arith)
child_range low keys zero (suc zero) a within is =
    let here : a + 0 ≡ a = omega arith in
    rw here ((and_parts (not (nat_eq (length (keys a)) 0)) (list_all (λ k. not (nat_lt k (low a))) (keys a)) is).1, λ more. absurd (omega arith))
child_range low keys zero (suc (suc n)) a within is =
    let here : a + 0 ≡ a = omega arith in
    let parts = and_parts _ _ (and_parts _ _ (and_parts _ _ is).0).1 in
    rw here (parts.0, λ more. parts.1)
child_range low keys (suc d) (suc zero) a within is = absurd (omega arith)
child_range low keys (suc d) (suc (suc n)) a within is =
    let here : a + suc d ≡ a + 1 + d = omega arith in
    let rest = child_range low keys d (suc n) (a + 1) (omega arith) (and_parts _ _ is).1 in
    rw here (rest.0, λ more. rest.1 (omega arith))

-- What is given below a node are the entries of the visits there, one visit after another.

module _ (size nr : ℕ) (image : List (List ℕ)) where
  pub visits_give : (j place low high : ℕ) → flat_map (entries_of_visit size image) (visits size nr image j place low high) ≡ salvaged_below size nr image j place low high
  unfolding visits salvaged_below
  visits_give zero place low high = refl
  visits_give (suc j) place low high = elim (cases_Bool (is_outside nr place || is_damaged size place (block_at image place))) [
    | inl lost ↦ rw lost refl
    | inr kept ↦ elim (cases_Bool (is_inner_node (block_at image place))) [
      | inl inner ↦
          let block = block_at image place in
          let child = λ (i : ℕ). visits size nr image j (child_at block i) (child_low block low i) (child_high size block high i) in
          let children = range_with_len 0 (entry_count size block) in
          rw (kept, inner) (joined_twice (entries_of_visit size image) child children
          ∙ same_each (λ i. flat_map (entries_of_visit size image) (child i))
          (λ i. salvaged_below size nr image j (child_at block i) (child_low block low i) (child_high size block high i)) children
          (all_of (λ i. flat_map (entries_of_visit size image) (child i) ≡ salvaged_below size nr image j (child_at block i) (child_low block low i) (child_high size block high i))
          (λ i. visits_give j (child_at block i) (child_low block low i) (child_high size block high i)) children))
      | inr leaf ↦ rw (kept, leaf) (append-nil (entries_of_visit size image (record { leaf = place; low = low; high = high })))
    ]
  ]

-- The entries of mappings.

pub length-items : (ms : List Mapping) → length (mapping_items ms) ≡ length ms
unfolding mapping_items
length-items ms = length-map ms (λ (m : Mapping). record { key = m.virtual_block; value = mapping_code m.data_block m.time })

pub items-append : (xs ys : List Mapping) → mapping_items (xs ++ ys) ≡ mapping_items xs ++ mapping_items ys
unfolding mapping_items
items-append xs ys = map-append _ xs ys

-- a mapping's entry names its data block, where its time has 24 bits
abbrev pub HasTimes : List Mapping → Type 0
HasTimes ms = AllByRecursion (λ (m : Mapping). m.time < 2 ^ 24) ms

pub data_of_items : (ms : List Mapping) → HasTimes ms
    → flat_map (λ (e : Entry). mapped_block e.value ∷ []) (mapping_items ms) ≡ map (λ (m : Mapping). m.data_block) ms
unfolding mapping_items
data_of_items [] times = refl
data_of_items (m ∷ ms) times = rw (div-mul-add m.data_block (2 ^ 24) m.time times.0, data_of_items ms times.1) refl
