-- Chains of inner edges, and what stands below a node that isn't deep.
use Rattle.std.proofs.Common.{◌≡◌, inl, inr, ℕ, zero, suc, ◌+◌, ◌-◌, ◌≤◌, Bool, true, false, nat_eq, List, [], ◌∷◌, refl, sym, ◌∙◌, ap, subst, arith, eq-eqb, ◌⊎◌, min, max, Option, Some, None}
use Rattle.std.specs.List.{list_any, list_all, AllByRecursion}
use Rattle.std.proofs.lemmas.Bool.{cases_Bool, or_cases, or_left, or_right, or_from, and_parts, and_from, eqb-true, both_ways, cases_lt}
use Rattle.std.proofs.lemmas.Option.{same_Some, none-some}
use Rattle.pd_kinds.specs.Graph.{has_chain}
use Rattle.pd_settle.specs.Notes.{lower, higher, least_of, greatest_of, IsLeast, IsGreatest}

-- a number is in a list
abbrev pub is_among : ℕ → List ℕ → Bool
is_among q xs = list_any (λ t. nat_eq t q) xs

-- an element that passes
pub passes_among : (f : ℕ → Bool) (q : ℕ) (xs : List ℕ) → is_among q xs ≡ true → f q ≡ true → list_any f xs ≡ true
passes_among f q [] among passes = among
passes_among f q (x ∷ xs) among passes = elim (or_cases (nat_eq x q) (is_among q xs) among) [
  | inl same ↦ or_left (f x) _ (ap f (eqb-true x q same) ∙ passes)
  | inr later ↦ or_right (f x) _ (passes_among f q xs later passes)
]

-- what holds of each number in a list
pub all_among : (P : ℕ → Type 0) (xs : List ℕ) → ((q : ℕ) → is_among q xs ≡ true → P q) → AllByRecursion P xs
all_among P [] each = tt
all_among P (x ∷ xs) each =
    (each x (or_left (nat_eq x x) _ (grind arith)), all_among P xs (λ q among. each q (or_right (nat_eq x q) _ among)))

-- each of a list passes
pub among_passes : (f : ℕ → Bool) (c : ℕ) (xs : List ℕ) → list_all f xs ≡ true → is_among c xs ≡ true → f c ≡ true
among_passes f c [] all among = absurd (both_ways _ refl among)
among_passes f c (x ∷ xs) all among =
    let parts = and_parts (f x) (list_all f xs) all in
    elim (or_cases (nat_eq x c) (is_among c xs) among) [
      | inl same ↦ ap f (sym (eqb-true x c same)) ∙ parts.0
      | inr later ↦ among_passes f c xs parts.1 later
    ]

pub all_pass : (f : ℕ → Bool) (xs : List ℕ) → ((q : ℕ) → is_among q xs ≡ true → f q ≡ true) → list_all f xs ≡ true
all_pass f [] each = refl
all_pass f (x ∷ xs) each =
    and_from (f x) (list_all f xs) (each x (or_left (nat_eq x x) _ (grind arith))) (all_pass f xs (λ q among. each q (or_right (nat_eq x q) _ among)))

-- one of a list passes
pub one_passes : (f : ℕ → Bool) (xs : List ℕ) → list_any f xs ≡ true → (c : ℕ) × (is_among c xs ≡ true) × (f c ≡ true)
one_passes f [] some = absurd (both_ways _ refl some)
one_passes f (x ∷ xs) some = elim (or_cases (f x) (list_any f xs) some) [
  | inl first ↦ (x, grind (arith, eq-eqb x x refl), first)
  | inr later ↦ let rest = one_passes f xs later in (rest.0, grind (arith, rest.1), rest.2)
]

-- a wider test
pub any_wider : (f g : ℕ → Bool) (xs : List ℕ) → ((q : ℕ) → f q ≡ true → g q ≡ true) → list_any f xs ≡ true → list_any g xs ≡ true
any_wider f g [] wider some = some
any_wider f g (x ∷ xs) wider some = elim (or_cases (f x) (list_any f xs) some) [
  | inl first ↦ or_left (g x) _ (wider x first)
  | inr later ↦ or_right (g x) _ (any_wider f g xs wider later)
]

module _ (down : ℕ → List ℕ) where
  -- a part of a chain is a chain
  pub shorter_chain : (j p : ℕ) → has_chain down (suc j) p ≡ true → has_chain down j p ≡ true
  unfolding has_chain
  shorter_chain zero p chain = refl
  shorter_chain (suc j) p chain = any_wider (has_chain down (suc j)) (has_chain down j) (down p) (shorter_chain j) chain

  -- where a chain ends, each longer one does
  pub ends_later : (k j p : ℕ) → has_chain down j p ≡ false → has_chain down (k + j) p ≡ false
  ends_later zero j p ends = subst (λ (m : ℕ). has_chain down m p ≡ false) (let e : j ≡ 0 + j = omega arith in e) ends
  ends_later (suc k) j p ends =
      let before = ends_later k j p ends in
      subst (λ (m : ℕ). has_chain down m p ≡ false) (let e : suc (k + j) ≡ suc k + j = omega arith in e)
      (elim (cases_Bool (has_chain down (suc (k + j)) p)) [
        | inl chain ↦ absurd (both_ways _ before (shorter_chain (k + j) p chain))
        | inr none ↦ none
      ])

  pub ends_by : (j k p : ℕ) → j ≤ k → has_chain down j p ≡ false → has_chain down k p ≡ false
  ends_by j k p few ends =
      subst (λ (m : ℕ). has_chain down m p ≡ false) (let e : k - j + j ≡ k = omega arith in e) (ends_later (k - j) j p ends)

  -- and a chain has each shorter one
  pub chain_by : (j k p : ℕ) → j ≤ k → has_chain down k p ≡ true → has_chain down j p ≡ true
  chain_by j k p few chain = elim (cases_Bool (has_chain down j p)) [
    | inl e ↦ e
    | inr none ↦ absurd (both_ways _ (ends_by j k p few none) chain)
  ]

  -- a chain at a child is one more at the node
  pub longer_chain : (j p q : ℕ) → is_among q (down p) ≡ true → has_chain down j q ≡ true → has_chain down (suc j) p ≡ true
  unfolding has_chain
  longer_chain j p q leads chain = passes_among (has_chain down j) q (down p) leads chain

  -- so where the node has none, the child has none that is shorter by one
  pub ends_below : (j p q : ℕ) → has_chain down (suc j) p ≡ false → is_among q (down p) ≡ true → has_chain down j q ≡ false
  ends_below j p q ends leads = elim (cases_Bool (has_chain down j q)) [
    | inl chain ↦ absurd (both_ways _ ends (longer_chain j p q leads chain))
    | inr e ↦ e
  ]

  -- where each node of a set has a child in it, chains never end
  pub never_ends : (S : ℕ → Type 0) → ((p : ℕ) → S p → (q : ℕ) × S q × (is_among q (down p) ≡ true))
      → (j p : ℕ) → S p → has_chain down j p ≡ true
  unfolding has_chain
  never_ends S leads zero p within = refl
  never_ends S leads (suc j) p within =
      let child = leads p within in
      longer_chain j p child.0 child.2 (never_ends S leads j child.0 child.1)

  -- no child has a chain of this length, so the node has none that is longer by one
  none_at : (j : ℕ) (xs : List ℕ) → AllByRecursion (λ c. has_chain down j c ≡ false) xs → list_any (has_chain down j) xs ≡ false
  none_at j [] all = refl
  none_at j (x ∷ xs) all = or_from (has_chain down j x) _ all.0 (none_at j xs all.1)

  pub ends_above : (j p : ℕ) → AllByRecursion (λ c. has_chain down j c ≡ false) (down p) → has_chain down (suc j) p ≡ false
  unfolding has_chain
  ends_above j p each = none_at j (down p) each

-- The best number of a list, by any order: the least of keys, and the greatest.

-- the better one of a number and one that may be missing
abbrev better : (ℕ → ℕ → ℕ) → ℕ → Option ℕ → Option ℕ
better pick x None = Some x
better pick x (Some y) = Some (pick x y)

abbrev best : (ℕ → ℕ → ℕ) → List ℕ → Option ℕ
best pick [] = None
best pick (x ∷ xs) = better pick x (best pick xs)

module _ (pick : ℕ → ℕ → ℕ) (le : ℕ → ℕ → Type 0) (either : (x y : ℕ) → (pick x y ≡ x) ⊎ (pick x y ≡ y))
    (left : (x y : ℕ) → le (pick x y) x) (right : (x y : ℕ) → le (pick x y) y)
    (further : (x y z : ℕ) → le x y → le y z → le x z) (itself : (x : ℕ) → le x x) (only : (x y : ℕ) → le x y → le y x → x ≡ y) where
  among_more : (x q : ℕ) (xs : List ℕ) (o : Option ℕ) → ((m : ℕ) → o ≡ Some m → is_among m xs ≡ true) → better pick x o ≡ Some q → is_among q (x ∷ xs) ≡ true
  among_more x q xs None rest e = or_left (nat_eq x q) _ (eq-eqb x q (same_Some x q e))
  among_more x q xs (Some m) rest e = elim (either x m) [
    | inl first ↦ or_left (nat_eq x q) _ (eq-eqb x q (sym first ∙ same_Some (pick x m) q e))
    | inr later ↦ or_right (nat_eq x q) _ (ap (λ (k : ℕ). is_among k xs) (sym (same_Some (pick x m) q e) ∙ later) ∙ rest m refl)
  ]

  best_among : (xs : List ℕ) (q : ℕ) → best pick xs ≡ Some q → is_among q xs ≡ true
  best_among [] q e = absurd (none-some q e)
  best_among (x ∷ xs) q e = among_more x q xs (best pick xs) (best_among xs) e

  some_better : (x : ℕ) (o : Option ℕ) → better pick x o ≡ None → ⊥
  some_better x None e = none-some x (sym e)
  some_better x (Some m) e = none-some (pick x m) (sym e)

  none_among : (xs : List ℕ) (k : ℕ) → best pick xs ≡ None → is_among k xs ≡ true → ⊥
  none_among [] k e among = both_ways _ refl among
  none_among (x ∷ xs) k e among = some_better x (best pick xs) e

  within_more : (x q k : ℕ) (xs : List ℕ) (o : Option ℕ) → ((m : ℕ) → o ≡ Some m → is_among k xs ≡ true → le m k) → (o ≡ None → is_among k xs ≡ true → ⊥)
      → better pick x o ≡ Some q → is_among k (x ∷ xs) ≡ true → le q k
  within_more x q k xs None rest none e among = elim (or_cases (nat_eq x k) (is_among k xs) among) [
    | inl same ↦ subst (λ (a : ℕ). le a k) (same_Some x q e) (subst (le x) (eqb-true x k same) (itself x))
    | inr later ↦ absurd (none refl later)
  ]
  within_more x q k xs (Some m) rest none e among = elim (or_cases (nat_eq x k) (is_among k xs) among) [
    | inl same ↦ subst (λ (a : ℕ). le a k) (same_Some (pick x m) q e) (subst (le (pick x m)) (eqb-true x k same) (left x m))
    | inr later ↦ subst (λ (a : ℕ). le a k) (same_Some (pick x m) q e) (further (pick x m) m k (right x m) (rest m refl later))
  ]

  best_within : (xs : List ℕ) (q k : ℕ) → best pick xs ≡ Some q → is_among k xs ≡ true → le q k
  best_within [] q k e among = absurd (none-some q e)
  best_within (x ∷ xs) q k e among = within_more x q k xs (best pick xs) (λ m f. best_within xs m k f) (none_among xs k) e among

  best_by : (xs : List ℕ) (q : ℕ) (o : Option ℕ) → best pick xs ≡ o → is_among q xs ≡ true → ((k : ℕ) → is_among k xs ≡ true → le q k) → best pick xs ≡ Some q
  best_by xs q None e among each = absurd (none_among xs q e among)
  best_by xs q (Some m) e among each =
      e ∙ ap (λ (k : ℕ). Some k) (only m q (best_within xs m q e among) (each m (best_among xs m e)))

-- the least is the best by the order, and the greatest by its converse
lower_is : (x : ℕ) (o : Option ℕ) → lower (Some x) o ≡ better min x o
lower_is x None = refl
lower_is x (Some y) = refl

higher_is : (x : ℕ) (o : Option ℕ) → higher (Some x) o ≡ better max x o
higher_is x None = refl
higher_is x (Some y) = refl

least_is : (xs : List ℕ) → least_of xs ≡ best min xs
least_is [] = refl
least_is (x ∷ xs) = ap (lower (Some x)) (least_is xs) ∙ lower_is x (best min xs)

greatest_is : (xs : List ℕ) → greatest_of xs ≡ best max xs
greatest_is [] = refl
greatest_is (x ∷ xs) = ap (higher (Some x)) (greatest_is xs) ∙ higher_is x (best max xs)

min_either : (x y : ℕ) → (min x y ≡ x) ⊎ (min x y ≡ y)
min_either x y = elim (cases_lt x y) [ inl less ↦ inl (omega arith) | inr more ↦ inr (omega arith) ]

pub max_either : (x y : ℕ) → (max x y ≡ x) ⊎ (max x y ≡ y)
max_either x y = elim (cases_lt x y) [ inl less ↦ inr (omega arith) | inr more ↦ inl (omega arith) ]

pub least_from : (xs : List ℕ) (q : ℕ) → least_of xs ≡ Some q → IsLeast xs q
least_from xs q e =
    let f = sym (least_is xs) ∙ e in
    record {
      among = best_among min (λ x y. x ≤ y) min_either (λ x y. omega arith) (λ x y. omega arith) (λ x y z a b. omega arith) (λ x. omega arith) (λ x y a b. omega arith) xs q f;
      below = λ k. best_within min (λ x y. x ≤ y) min_either (λ x y. omega arith) (λ x y. omega arith) (λ x y z a b. omega arith) (λ x. omega arith) (λ x y a b. omega arith) xs q k f;
    }

pub least_by : (xs : List ℕ) (q : ℕ) → IsLeast xs q → least_of xs ≡ Some q
least_by xs q is =
    least_is xs
    ∙ best_by min (λ x y. x ≤ y) min_either (λ x y. omega arith) (λ x y. omega arith) (λ x y z a b. omega arith) (λ x. omega arith) (λ x y a b. omega arith)
    xs q (best min xs) refl is.among is.below

pub greatest_from : (xs : List ℕ) (q : ℕ) → greatest_of xs ≡ Some q → IsGreatest xs q
greatest_from xs q e =
    let f = sym (greatest_is xs) ∙ e in
    record {
      among = best_among max (λ x y. y ≤ x) max_either (λ x y. omega arith) (λ x y. omega arith) (λ x y z a b. omega arith) (λ x. omega arith) (λ x y a b. omega arith) xs q f;
      above = λ k. best_within max (λ x y. y ≤ x) max_either (λ x y. omega arith) (λ x y. omega arith) (λ x y z a b. omega arith) (λ x. omega arith) (λ x y a b. omega arith) xs q k f;
    }

pub greatest_by : (xs : List ℕ) (q : ℕ) → IsGreatest xs q → greatest_of xs ≡ Some q
greatest_by xs q is =
    greatest_is xs
    ∙ best_by max (λ x y. y ≤ x) max_either (λ x y. omega arith) (λ x y. omega arith) (λ x y z a b. omega arith) (λ x. omega arith) (λ x y a b. omega arith)
    xs q (best max xs) refl is.among is.above

-- only no numbers have none
pub least_none : (xs : List ℕ) → least_of xs ≡ None → xs ≡ []
least_none [] e = refl
least_none (x ∷ xs) e = absurd (some_better min (λ x y. x ≤ y) min_either (λ x y. omega arith) (λ x y. omega arith) (λ x y z a b. omega arith) (λ x. omega arith) (λ x y a b. omega arith) x (best min xs) (sym (least_is (x ∷ xs)) ∙ e))

pub greatest_none : (xs : List ℕ) → greatest_of xs ≡ None → xs ≡ []
greatest_none [] e = refl
greatest_none (x ∷ xs) e = absurd (some_better max (λ x y. y ≤ x) max_either (λ x y. omega arith) (λ x y. omega arith) (λ x y z a b. omega arith) (λ x. omega arith) (λ x y a b. omega arith) x (best max xs) (sym (greatest_is (x ∷ xs)) ∙ e))
