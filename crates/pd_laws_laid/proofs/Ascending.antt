-- Ascending keys, and the ranges of the children of a node.
use Rattle.std.proofs.Common.{◌≡◌, ℕ, ◌<◌, ◌≤◌, Bool, true, not, nat_eq, nat_lt, List, [], ◌∷◌, ◌++◌, length, map, Some, None, refl, sym, ◌∙◌, ap, arith}
use Rattle.std.specs.List.{AllByRecursion, flat_map, list_all}
use Rattle.std.proofs.lemmas.Bool.{and_parts, and_from, lt-ltb, ltb-true}
use Rattle.std.proofs.lemmas.Bool.Decides.{nat_tests}
use Rattle.std.proofs.lemmas.List.{map-append}
use Rattle.pd_kinds.specs.Node.{Entry, is_ascending}
use Rattle.pd_kinds.specs.Graph.{are_children_in_range, is_child_in_range}
use Rattle.pd_kinds.specs.Trees.{keys_of}
use Rattle.pd_kinds.proofs.KindLemmas.{asc_left, asc_right, asc_tail}
use Rattle.pd_kinds.proofs.KindsListLemmas.{all_last}
use Rattle.pd_kinds.proofs.ListLemmas.{all_from}
use Rattle.pd_laid.specs.Laid.{first_key}

-- a list begins with a key
abbrev pub BeginsWith : ℕ → List ℕ → Type 0
BeginsWith key [] = ⊥
BeginsWith key (x ∷ xs) = x ≡ key

pub first_less : (x : ℕ) (xs : List ℕ) → is_ascending (x ∷ xs) ≡ true → AllByRecursion (λ k. x < k) xs
unfolding is_ascending
first_less x [] asc = tt
first_less x (y ∷ xs) asc =
    let parts = and_parts (nat_lt x y) (is_ascending (y ∷ xs)) asc in
    let less = ltb-true x y parts.0 in
    (less, all_from (λ k. y < k) (λ k. x < k) (λ k more. omega arith) xs (first_less y xs parts.1))

pub asc_cons : (x : ℕ) (xs : List ℕ) → AllByRecursion (λ k. x < k) xs → is_ascending xs ≡ true → is_ascending (x ∷ xs) ≡ true
unfolding is_ascending
asc_cons x [] less asc = refl
asc_cons x (y ∷ xs) less asc = and_from (nat_lt x y) _ (lt-ltb x y less.0) asc

less_before : (xs : List ℕ) (y : ℕ) (ys : List ℕ) → is_ascending (xs ++ y ∷ ys) ≡ true → AllByRecursion (λ k. k < y) xs
less_before [] y ys asc = tt
less_before (x ∷ xs) y ys asc =
    ((all_last (λ k. x < k) xs (y ∷ ys) (first_less x (xs ++ y ∷ ys) asc)).0, less_before xs y ys (asc_tail x (xs ++ y ∷ ys) asc))

-- the first keys of parts ascend where the parts do
pub firsts_ascend : (groups : List (List Entry)) → AllByRecursion (λ (g : List Entry). 1 ≤ length g) groups
    → is_ascending (keys_of (flat_map (λ (g : List Entry). g) groups)) ≡ true → is_ascending (map first_key groups) ≡ true
unfolding is_ascending
firsts_ascend [] some asc = refl
firsts_ascend (g ∷ []) some asc = refl
firsts_ascend ([] ∷ groups) some asc = absurd (omega (arith, some.0))
firsts_ascend (g ∷ [] ∷ groups) some asc = absurd (omega (arith, some.1.0))
firsts_ascend ((e ∷ es) ∷ (f ∷ fs) ∷ groups) some asc =
    let rest = flat_map (λ (g : List Entry). g) ((f ∷ fs) ∷ groups) in
    let split : is_ascending (keys_of (e ∷ es) ++ keys_of rest) ≡ true = ap is_ascending (sym (map-append (λ (x : Entry). x.key) (e ∷ es) rest)) ∙ asc in
    and_from (nat_lt e.key f.key) _ (lt-ltb e.key f.key (less_before (keys_of (e ∷ es)) f.key _ split).0)
    (firsts_ascend ((f ∷ fs) ∷ groups) some.1 (asc_right (keys_of (e ∷ es)) (keys_of rest) split))

-- and keep what holds of each key
pub firsts_keep : (P : ℕ → Type 0) (groups : List (List Entry)) → AllByRecursion (λ (g : List Entry). 1 ≤ length g) groups
    → AllByRecursion (λ (e : Entry). P e.key) (flat_map (λ (g : List Entry). g) groups) → AllByRecursion P (map first_key groups)
firsts_keep P [] some all = tt
firsts_keep P ([] ∷ groups) some all = absurd (omega (arith, some.0))
firsts_keep P ((e ∷ es) ∷ groups) some all =
    (all.0, firsts_keep P groups some.1 (all_last (λ (e : Entry). P e.key) (e ∷ es) (flat_map (λ (g : List Entry). g) groups) all))

pub parts_ascend : (groups : List (List Entry)) → is_ascending (keys_of (flat_map (λ (g : List Entry). g) groups)) ≡ true
    → AllByRecursion (λ (g : List Entry). is_ascending (keys_of g) ≡ true) groups
parts_ascend [] asc = tt
parts_ascend (g ∷ groups) asc =
    let rest = flat_map (λ (g : List Entry). g) groups in
    let split : is_ascending (keys_of g ++ keys_of rest) ≡ true = rw (map-append (λ (x : Entry). x.key) g rest) at asc in
    (asc_left (keys_of g) (keys_of rest) split, parts_ascend groups (asc_right (keys_of g) (keys_of rest) split))

all_pass : (test : ℕ → Bool) (xs : List ℕ) → AllByRecursion (λ k. test k ≡ true) xs → list_all test xs ≡ true
all_pass test [] all = refl
all_pass test (x ∷ xs) all = and_from (test x) (list_all test xs) all.0 (all_pass test xs all.1)

-- a child with ascending keys is in range from its first key on
some_keys : (x : ℕ) (xs : List ℕ) → not (nat_eq (length (x ∷ xs)) 0) ≡ true
some_keys x xs = grind (arith, nat_tests)

from_first : (low x : ℕ) (xs : List ℕ) → x ≡ low → is_ascending (x ∷ xs) ≡ true → list_all (λ k. not (nat_lt k low)) (x ∷ xs) ≡ true
from_first low x xs same asc =
    all_pass (λ k. not (nat_lt k low)) (x ∷ xs)
    (grind (arith, nat_tests), all_from (λ k. x < k) (λ k. not (nat_lt k low) ≡ true) (λ k more. grind (arith, nat_tests)) xs (first_less x xs asc))

child_from : (low : ℕ) (xs : List ℕ) → BeginsWith low xs → is_ascending xs ≡ true → is_child_in_range low None xs ≡ true
child_from low [] begins asc = absurd begins
child_from low (x ∷ xs) begins asc = and_from (not (nat_eq (length (x ∷ xs)) 0)) _ (some_keys x xs) (from_first low x xs begins asc)

child_between : (low high : ℕ) (xs : List ℕ) → BeginsWith low xs → is_ascending xs ≡ true → AllByRecursion (λ k. k < high) xs
    → is_child_in_range low (Some high) xs ≡ true
child_between low high [] begins asc less = absurd begins
child_between low high (x ∷ xs) begins asc less =
    and_from (not (nat_eq (length (x ∷ xs)) 0)) _ (some_keys x xs)
    (and_from (list_all (λ k. not (nat_lt k low)) (x ∷ xs)) _ (from_first low x xs begins asc)
    (all_pass (λ k. nat_lt k high) (x ∷ xs) (all_from (λ k. k < high) (λ k. nat_lt k high ≡ true) (λ k more. lt-ltb k high more) (x ∷ xs) less)))

-- children whose keys ascend throughout are in range by the first key of each
pub in_range_by_heads : (below : Entry → List ℕ) (entries : List Entry) → AllByRecursion (λ (e : Entry). BeginsWith e.key (below e)) entries
    → is_ascending (flat_map below entries) ≡ true → are_children_in_range (keys_of entries) (map below entries) ≡ true
unfolding are_children_in_range
in_range_by_heads below [] begin asc = refl
in_range_by_heads below (e ∷ []) begin asc = child_from e.key (below e) begin.0 (asc_left (below e) [] asc)
in_range_by_heads below (e ∷ f ∷ entries) begin asc =
    let rest = asc_right (below e) (flat_map below (f ∷ entries)) asc in
    and_from (is_child_in_range e.key (Some f.key) (below e)) _
    (child_between e.key f.key (below e) begin.0 (asc_left (below e) _ asc) (before_next (below f) begin.1.0 asc))
    (in_range_by_heads below (f ∷ entries) begin.1 rest)
  where
    before_next : (next : List ℕ) → BeginsWith f.key next → is_ascending (below e ++ (next ++ flat_map below entries)) ≡ true → AllByRecursion (λ k. k < f.key) (below e)
    before_next [] begins asc = absurd begins
    before_next (y ∷ next) begins asc = rw (← begins) (less_before (below e) y (next ++ flat_map below entries) asc)
