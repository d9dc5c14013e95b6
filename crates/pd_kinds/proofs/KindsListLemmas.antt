-- Lists: tests, sums and facts of each item.
use Rattle.std.proofs.Common.{Bool, List, [], ap, arith, cond, drop, false, inl, inr, length, map, nat_eq, refl, suc, take, true, zero, ℕ, ◌++◌, ◌+◌, ◌||◌, ◌∷◌, ◌≡◌}
use Rattle.std.proofs.lemmas.Bool.{both_ways, eqb-true, or_cases, or_parts}
use Rattle.std.proofs.lemmas.List.Sums.{sum_by-append, sum_by-cons}
use Rattle.std.specs.List.{AllByRecursion, count_by, flat_map, list_any, sum_by}

-- none of the last ones
pub none_last : {X : Type 0} → (p : X → Bool) (xs ys : List X) → list_any p (xs ++ ys) ≡ false → list_any p ys ≡ false
none_last p [] ys none = none
none_last p (x ∷ xs) ys none = none_last p xs ys (or_parts (p x) (list_any p (xs ++ ys)) none).1

-- no element passes a test that nothing passes
pub none_passes : {X : Type 0} → (f : X → Bool) (xs : List X) → ((x : X) → f x ≡ false) → list_any f xs ≡ false
none_passes f [] none = refl
none_passes f (x ∷ xs) none = rw (none x, none_passes f xs none) refl

-- one number more that passes
pub length_first : (b : Bool) (x : ℕ) (kept : List ℕ) → length (cond b (x ∷ kept) kept) ≡ cond b 1 0 + length kept
length_first true x kept = omega arith
length_first false x kept = omega arith

-- how often a number comes in lists in a row
pub count_by-flat_map : {X : Type 0} → (p : ℕ → Bool) (f : X → List ℕ) (xs : List X) → count_by p (flat_map f xs) ≡ sum_by (λ x. count_by p (f x)) xs
count_by-flat_map p f [] = refl
count_by-flat_map p f (x ∷ xs) =
    let here = sum_by-append (λ y. cond (p y) 1 0) (f x) (flat_map f xs) in
    let rest = count_by-flat_map p f xs in
    let whole = sum_by-cons (λ y. count_by p (f y)) x xs in
    omega arith

-- the two parts of a list
pub all_first : {X : Type 0} → (P : X → Type 0) (xs ys : List X) → AllByRecursion P (xs ++ ys) → AllByRecursion P xs
all_first P [] ys all = tt
all_first P (x ∷ xs) ys all = (all.0, all_first P xs ys all.1)

pub all_last : {X : Type 0} → (P : X → Type 0) (xs ys : List X) → AllByRecursion P (xs ++ ys) → AllByRecursion P ys
all_last P [] ys all = all
all_last P (x ∷ xs) ys all = all_last P xs ys all.1

-- of mapped elements
pub any-map : {X Y : Type 0} → (p : Y → Bool) (f : X → Y) (xs : List X) → list_any p (map f xs) ≡ list_any (λ x. p (f x)) xs
any-map p f [] = refl
any-map p f (x ∷ xs) = ap (λ (b : Bool). p (f x) || b) (any-map p f xs)

-- what holds of each number of a list holds of one that is found
pub holds_among : (P : ℕ → Type 0) (xs : List ℕ) (p : ℕ) → AllByRecursion P xs → list_any (λ t. nat_eq t p) xs ≡ true → P p
holds_among P [] p all e = absurd (both_ways (list_any (λ t. nat_eq t p) []) refl e)
holds_among P (x ∷ xs) p all e = elim (or_cases (nat_eq x p) (list_any (λ t. nat_eq t p) xs) e) [
  | inl here ↦ let same = eqb-true x p here in rw (← same) all.0
  | inr later ↦ holds_among P xs p all.1 later
]

-- what holds of all elements holds of those in front and of the others
pub all_front : {A : Type 0} (P : A → Type 0) (n : ℕ) (xs : List A) → AllByRecursion P xs → AllByRecursion P (take n xs)
all_front P zero xs all = tt
all_front P (suc n) [] all = tt
all_front P (suc n) (x ∷ xs) all = (all.0, all_front P n xs all.1)

pub all_rest : {A : Type 0} (P : A → Type 0) (n : ℕ) (xs : List A) → AllByRecursion P xs → AllByRecursion P (drop n xs)
all_rest P zero xs all = all
all_rest P (suc n) [] all = tt
all_rest P (suc n) (x ∷ xs) all = all_rest P n xs all.1
