-- Lists in a row, and what of them passes a test.
use Rattle.std.proofs.Common.{◌≡◌, ◌⊎◌, inl, inr, ℕ, zero, suc, ◌+◌, ◌<◌, ◌≤◌, Bool, true, false, nat_eq, cond, List, [], ◌∷◌, ◌++◌, map, refl, ◌∙◌, ap, arith, length}
use Rattle.std.specs.List.{AllByRecursion, list_any, flat_map, range_with_len, count_by}
use Rattle.std.proofs.lemmas.Bool.{both_ways, or_cases, or_left, or_right, or_from, eqb-true, cases_eq}
use Rattle.std.proofs.lemmas.List.{map-append}
use Rattle.std.proofs.lemmas.List.Sums.{sum_by-append}
use Rattle.pd_laws_laid.specs.LaidOut.{AllFrom}

-- some number of a range passes
pub in_range_of : (f : ℕ → Bool) (a n : ℕ) → list_any f (range_with_len a n) ≡ true → (q : ℕ) × (a ≤ q) × (q < a + n) × (f q ≡ true)
in_range_of f a zero e = absurd (both_ways (list_any f []) refl e)
in_range_of f a (suc n) e = elim (or_cases (f a) (list_any f (range_with_len (a + 1) n)) e) [
  | inl here ↦ (a, omega arith, omega arith, here)
  | inr later ↦ let found = in_range_of f (a + 1) n later in (found.0, omega arith, omega arith, found.3)
]

-- what holds of each number of a list holds of one that is found
pub holds_of_found : {X : Type 0} → (P : ℕ → Type 0) (f : X → ℕ) (xs : List X) (p : ℕ) → AllByRecursion (λ x. P (f x)) xs
    → list_any (λ t. nat_eq t p) (map f xs) ≡ true → P p
holds_of_found P f [] p all e = absurd (both_ways (list_any (λ t. nat_eq t p) []) refl e)
holds_of_found P f (x ∷ xs) p all e = elim (or_cases (nat_eq (f x) p) (list_any (λ t. nat_eq t p) (map f xs)) e) [
  | inl here ↦ let same = eqb-true (f x) p here in rw (← same) all.0
  | inr later ↦ holds_of_found P f xs p all.1 later
]

-- a test over two lists in a row
pub any_front : {X : Type 0} → (test : X → Bool) (xs ys : List X) → list_any test xs ≡ true → list_any test (xs ++ ys) ≡ true
any_front test [] ys e = absurd (both_ways (list_any test []) refl e)
any_front test (x ∷ xs) ys e = elim (or_cases (test x) (list_any test xs) e) [
  | inl here ↦ or_left (test x) (list_any test (xs ++ ys)) here
  | inr later ↦ or_right (test x) (list_any test (xs ++ ys)) (any_front test xs ys later)
]

pub any_back : {X : Type 0} → (test : X → Bool) (xs ys : List X) → list_any test ys ≡ true → list_any test (xs ++ ys) ≡ true
any_back test [] ys e = e
any_back test (x ∷ xs) ys e = or_right (test x) (list_any test (xs ++ ys)) (any_back test xs ys e)

pub any_both : {X : Type 0} → (test : X → Bool) (xs ys : List X) → list_any test (xs ++ ys) ≡ true → ((list_any test xs ≡ true) ⊎ (list_any test ys ≡ true))
any_both test [] ys e = inr e
any_both test (x ∷ xs) ys e = elim (or_cases (test x) (list_any test (xs ++ ys)) e) [
  | inl here ↦ inl (or_left (test x) (list_any test xs) here)
  | inr later ↦ elim (any_both test xs ys later) [
    | inl front ↦ inl (or_right (test x) (list_any test xs) front)
    | inr back ↦ inr back
  ]
]

-- none passes
pub any_none : {X : Type 0} → (test : X → Bool) (xs : List X) → AllByRecursion (λ x. test x ≡ false) xs → list_any test xs ≡ false
any_none test [] all = refl
any_none test (x ∷ xs) all = or_from (test x) (list_any test xs) all.0 (any_none test xs all.1)

-- two facts of each element
pub all_pairs : {X : Type 0} → (P Q : X → Type 0) (xs : List X) → AllByRecursion P xs → AllByRecursion Q xs → AllByRecursion (λ x. P x × Q x) xs
all_pairs P Q [] ps qs = tt
all_pairs P Q (x ∷ xs) ps qs = ((ps.0, qs.0), all_pairs P Q xs ps.1 qs.1)

-- lists in a row, counted
pub count_append : {X : Type 0} → (test : X → Bool) (xs ys : List X) → count_by test (xs ++ ys) ≡ count_by test xs + count_by test ys
count_append test xs ys = sum_by-append (λ x. cond (test x) 1 0) xs ys

-- lists in a row, each mapped
pub map_flat : {X Y Z : Type 0} → (g : Y → Z) (f : X → List Y) (xs : List X) → map g (flat_map f xs) ≡ flat_map (λ x. map g (f x)) xs
map_flat g f [] = refl
map_flat {X} {Y} {Z} g f (x ∷ xs) = map-append g (f x) (flat_map f xs) ∙ ap (λ (rest : List Z). map g (f x) ++ rest) (map_flat g f xs)

-- What holds of each element by its place.

module _ {X : Type 0} where
  -- what follows at each place
  pub from_follows : (P Q : ℕ → X → Type 0) (place : ℕ) (xs : List X) → ((q : ℕ) → place ≤ q → q < place + length xs → (x : X) → P q x → Q q x)
      → AllFrom P place xs → AllFrom Q place xs
  from_follows P Q place [] follows all = tt
  from_follows P Q place (x ∷ xs) follows all = (
    follows place (omega arith) (omega arith) x all.0,
    from_follows P Q (place + 1) xs (λ q low high x is. follows q (omega arith) (omega arith) x is) all.1,
  )

  -- two facts at each place
  pub from_pairs : (P Q : ℕ → X → Type 0) (place : ℕ) (xs : List X) → AllFrom P place xs → AllFrom Q place xs → AllFrom (λ q x. P q x × Q q x) place xs
  from_pairs P Q place [] ps qs = tt
  from_pairs P Q place (x ∷ xs) ps qs = ((ps.0, qs.0), from_pairs P Q (place + 1) xs ps.1 qs.1)

  -- two lists in a row
  pub from_front : (P : ℕ → X → Type 0) (place : ℕ) (xs ys : List X) → AllFrom P place (xs ++ ys) → AllFrom P place xs
  from_front P place [] ys all = tt
  from_front P place (x ∷ xs) ys all = (all.0, from_front P (place + 1) xs ys all.1)

  pub from_back : (P : ℕ → X → Type 0) (place : ℕ) (xs ys : List X) → AllFrom P place (xs ++ ys) → AllFrom P (place + length xs) ys
  from_back P place [] ys all = let e : place + 0 ≡ place = omega arith in rw e all
  from_back P place (x ∷ xs) ys all =
      let e : place + suc (length xs) ≡ (place + 1) + length xs = omega arith in
      rw e (from_back P (place + 1) xs ys all.1)

  pub from_both : (P : ℕ → X → Type 0) (place : ℕ) (xs ys : List X) → AllFrom P place xs → AllFrom P (place + length xs) ys → AllFrom P place (xs ++ ys)
  from_both P place [] ys front back = let e : place + 0 ≡ place = omega arith in rw e at back
  from_both P place (x ∷ xs) ys front back =
      let e : place + suc (length xs) ≡ (place + 1) + length xs = omega arith in
      (front.0, from_both P (place + 1) xs ys front.1 (rw e at back))

  -- what is said of the place alone, by the place
  pub by_place : (P : ℕ → Type 0) (place : ℕ) (xs : List X) → AllFrom (λ q x. P q) place xs → (b : ℕ) → place ≤ b → b < place + length xs → P b
  by_place P place [] all b low high = absurd (omega arith)
  by_place P place (x ∷ xs) all b low high = elim (cases_eq b place) [
    | inl same ↦ rw same all.0
    | inr other ↦ by_place P (place + 1) xs all.1 b (omega arith) (omega arith)
  ]

  -- a function of the place gives the lists of the elements that stand there
  pub range_agree : {Y : Type 0} → (f : ℕ → List Y) (h : X → List Y) (place : ℕ) (xs : List X) → AllFrom (λ q x. f q ≡ h x) place xs
      → flat_map f (range_with_len place (length xs)) ≡ flat_map h xs
  range_agree f h place [] all = refl
  range_agree {Y} f h place (x ∷ xs) all =
      ap (λ (front : List Y). front ++ flat_map f (range_with_len (place + 1) (length xs))) all.0
      ∙ ap (λ (rest : List Y). h x ++ rest) (range_agree f h (place + 1) xs all.1)
