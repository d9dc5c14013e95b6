-- Rounds that add pairs come to rest at the pairs that paths from the first one lead to, and do so before
-- there are as many rounds as pairs.
use Rattle.std.proofs.Common.{◌≡◌, ◌⊎◌, inl, inr, ℕ, zero, suc, ◌+◌, ◌<◌, ◌≤◌, Bool, true, false, ◌&&◌, ◌||◌, not, cond, nat_eq, get_or, List, [], ◌∷◌, refl, sym, subst, zero-add, eq-eqb, arith}
use Rattle.std.specs.List.{list_any, range_with_len, count_by}
use Rattle.std.proofs.lemmas.Bool.{cases_Bool, cases_lt, or_cases, or_left, or_right, and_parts, and_from, eqb-true, both_ways}
use Rattle.std.proofs.lemmas.List.Folds.{Any-from_list_any, list_any_at}
use Rattle.std.proofs.lemmas.List.FromFn.{length-range_with_len, get_or-range_with_len}
use Rattle.std.proofs.lemmas.List.Sums.{sum_by-cons, count_by-le-length}
use Rattle.pd_kinds.specs.Graph.{reached_from}
use Rattle.pd_kinds.specs.Paths.{IsOnPathFrom, start, edge}

-- a number below n that passes
pub passing_below : (f : ℕ → Bool) (n : ℕ) → list_any f (range_with_len 0 n) ≡ true → (q : ℕ) × (q < n) × (f q ≡ true)
passing_below f n some =
    let found = Any-from_list_any f (range_with_len 0 n) some in
    let len = length-range_with_len 0 n in
    let small : found.0 < n = omega arith in
    let same = get_or-range_with_len 0 n found.0 found.1 small in
    (found.1, omega (arith, found.3), found.4)

-- and the other way round
pub passes_below : (f : ℕ → Bool) (n q : ℕ) → q < n → f q ≡ true → list_any f (range_with_len 0 n) ≡ true
passes_below f n q small e =
    let len = length-range_with_len 0 n in
    let same : f (get_or (range_with_len 0 n) q 0) ≡ true = rw (get_or-range_with_len 0 n q 0 small, zero-add q) e in
    list_any_at f (range_with_len 0 n) q 0 (omega arith) same

-- one element of what follows
wider_by : (a b more : Bool) (m n : ℕ) → (a ≡ true → b ≡ true) → m + cond more 1 0 ≤ n
    → cond a 1 0 + m + cond ((b && not a) || more) 1 0 ≤ cond b 1 0 + n
wider_by true true more m n wider rest = omega arith
wider_by true false more m n wider rest = absurd (both_ways false refl (wider refl))
wider_by false true true m n wider rest = omega arith
wider_by false true false m n wider rest = omega arith
wider_by false false more m n wider rest = omega arith

-- a wider test counts more, by at least one where it passes what the other doesn't
pub count_wider : {X : Type 0} → (f g : X → Bool) (xs : List X) → ((x : X) → f x ≡ true → g x ≡ true)
    → count_by f xs + cond (list_any (λ x. g x && not (f x)) xs) 1 0 ≤ count_by g xs
count_wider f g [] wider = omega arith
count_wider f g (x ∷ xs) wider =
    let narrow = sum_by-cons (λ x. cond (f x) 1 0) x xs in
    let wide = sum_by-cons (λ x. cond (g x) 1 0) x xs in
    let rest = count_wider f g xs wider in
    rw (narrow, wide) (wider_by (f x) (g x) (list_any (λ x. g x && not (f x)) xs) _ _ (wider x) rest)

-- a round keeps what the rounds before reached
pub reached_more : (n : ℕ) (step : ℕ → List ℕ) (first k p : ℕ) → reached_from n step first k p ≡ true → reached_from n step first (suc k) p ≡ true
unfolding reached_from
reached_more n step first k p e = or_left (reached_from n step first k p) _ e

-- and adds what they lead to
pub reached_step : (n : ℕ) (step : ℕ → List ℕ) (first k q p : ℕ) → q < n → reached_from n step first k q ≡ true
    → list_any (λ t. nat_eq t p) (step q) ≡ true → reached_from n step first (suc k) p ≡ true
unfolding reached_from
reached_step n step first k q p small e leads =
    let leads_there = λ (q : ℕ). reached_from n step first k q && list_any (λ t. nat_eq t p) (step q) in
    or_right (reached_from n step first k p) _ (passes_below leads_there n q small (and_from (reached_from n step first k q) _ e leads))

-- the first pair is reached in each round
pub reached_start : (n : ℕ) (step : ℕ → List ℕ) (first k : ℕ) → reached_from n step first k first ≡ true
unfolding reached_from
reached_start n step first zero = eq-eqb first first refl
reached_start n step first (suc k) = reached_more n step first k first (reached_start n step first k)

-- before the first round it alone is
pub only_start : (n : ℕ) (step : ℕ → List ℕ) (first p : ℕ) → reached_from n step first 0 p ≡ true → p ≡ first
unfolding reached_from
only_start n step first p e = eqb-true p first e

-- what a round reaches was reached before, or is led to from there
pub reached_cases : (n : ℕ) (step : ℕ → List ℕ) (first k p : ℕ) → reached_from n step first (suc k) p ≡ true
    → (reached_from n step first k p ≡ true)
    ⊎ ((q : ℕ) × (q < n) × (reached_from n step first k q ≡ true) × (list_any (λ t. nat_eq t p) (step q) ≡ true))
unfolding reached_from
reached_cases n step first k p e = elim (or_cases (reached_from n step first k p) _ e) [
  | inl before ↦ inl before
  | inr found ↦
      let from = passing_below (λ q. reached_from n step first k q && list_any (λ t. nat_eq t p) (step q)) n found in
      let parts = and_parts (reached_from n step first k from.0) _ from.2 in
      inr (from.0, from.1, parts.0, parts.1)
]

-- a path leads to what is reached
pub path_from_reached : (n : ℕ) (step : ℕ → List ℕ) {first : ℕ} (k p : ℕ) → reached_from n step first k p ≡ true → IsOnPathFrom n step first p
path_from_reached n step {first} zero p e = subst (λ (x : ℕ). IsOnPathFrom n step first x) (sym (only_start n step first p e)) start
path_from_reached n step {first} (suc k) p e = elim (reached_cases n step first k p e) [
  | inl before ↦ path_from_reached n step k p before
  | inr from ↦ edge from.0 p from.1 (path_from_reached n step k from.0 from.2) from.3
]

-- the next round adds no pair below n
pub record IsAtRest (n : ℕ) (step : ℕ → List ℕ) (first k : ℕ) : Type 0 where
  pub stays : (p : ℕ) → p < n → reached_from n step first (suc k) p ≡ true → reached_from n step first k p ≡ true

-- which holds of all later rounds too
pub stays_at_rest : (n : ℕ) (step : ℕ → List ℕ) (first k : ℕ) → IsAtRest n step first k → IsAtRest n step first (suc k)
stays_at_rest n step first k rest = record {
  stays = λ p small e. elim (reached_cases n step first (suc k) p e) [
    | inl before ↦ before
    | inr from ↦ reached_step n step first k from.0 p from.1 (rest.stays from.0 from.1 from.2) from.3
  ];
}

-- a round that isn't at rest adds a pair
pub rest_or_more : (n : ℕ) (step : ℕ → List ℕ) (first k m : ℕ) → m < count_by (reached_from n step first k) (range_with_len 0 n)
    → IsAtRest n step first k ⊎ (suc m < count_by (reached_from n step first (suc k)) (range_with_len 0 n))
rest_or_more n step first k m many =
    let is_new = λ (p : ℕ). reached_from n step first (suc k) p && not (reached_from n step first k p) in
    let more = count_wider (reached_from n step first k) (reached_from n step first (suc k)) (range_with_len 0 n) (reached_more n step first k) in
    elim (cases_Bool (list_any is_new (range_with_len 0 n))) [
      | inl some ↦ inr (let counted = rw some at more in omega arith)
      | inr none ↦ inl (record {
        stays = λ p small e. elim (cases_Bool (reached_from n step first k p)) [
          | inl before ↦ before
          | inr new ↦ absurd (both_ways (list_any is_new (range_with_len 0 n)) none (passes_below is_new n p small (and_from _ _ e (rw new refl))))
        ];
      })
    ]

-- one number that passes is counted
counts_one : (f : ℕ → Bool) (n p : ℕ) → p < n → f p ≡ true → 0 < count_by f (range_with_len 0 n)
counts_one f n p small passes =
    let wider = count_wider (λ (q : ℕ). false) f (range_with_len 0 n) (λ q e. absurd (both_ways false refl e)) in
    let counted = rw (passes_below (λ q. f q && true) n p small (and_from (f p) _ passes refl)) at wider in
    omega arith

-- so k rounds from a pair below n are at rest, or one more reaches more than k + 1 pairs
pub rest_or_many : (n : ℕ) (step : ℕ → List ℕ) (first k : ℕ) → first < n
    → IsAtRest n step first k ⊎ (suc k < count_by (reached_from n step first (suc k)) (range_with_len 0 n))
rest_or_many n step first zero below =
    rest_or_more n step first 0 0 (counts_one (reached_from n step first 0) n first below (reached_start n step first 0))
rest_or_many n step first (suc k) below = elim (rest_or_many n step first k below) [
  | inl rest ↦ inl (stays_at_rest n step first k rest)
  | inr many ↦ rest_or_more n step first (suc k) (suc k) many
]

-- a pair that isn't below n leads nowhere, so all rounds are at rest
rests_outside : (n : ℕ) (step : ℕ → List ℕ) (first k : ℕ) → n ≤ first → IsAtRest n step first k
rests_outside n step first zero outside = record {
  stays = λ p small e. elim (reached_cases n step first 0 p e) [
    | inl before ↦ before
    | inr from ↦ absurd (let same = only_start n step first from.0 from.2 in let below = from.1 in omega arith)
  ];
}
rests_outside n step first (suc k) outside = stays_at_rest n step first k (rests_outside n step first k outside)

-- there are n pairs, so the rounds before the n-th are at rest
pub is_at_rest : (k : ℕ) (step : ℕ → List ℕ) (first : ℕ) → IsAtRest (suc k) step first k
is_at_rest k step first = elim (cases_lt first (suc k)) [
  | inl below ↦ elim (rest_or_many (suc k) step first k below) [
    | inl rest ↦ rest
    | inr many ↦
        absurd (omega (arith, count_by-le-length (reached_from (suc k) step first (suc k)) (range_with_len 0 (suc k)), length-range_with_len 0 (suc k)))
  ]
  | inr outside ↦ rests_outside (suc k) step first k outside
]

-- a pair below n that a path leads to is reached once the rounds are at rest
pub reached_below : (n : ℕ) (step : ℕ → List ℕ) (first k : ℕ) → IsAtRest n step first k → (p : ℕ) → IsOnPathFrom n step first p → p < n
    → reached_from n step first k p ≡ true
reached_below n step first k rest p start small = reached_start n step first k
reached_below n step first k rest p (edge q p' below path leads) small =
    rest.stays p' small (reached_step n step first k q p' below (reached_below n step first k rest q path below) leads)

-- pairs not below n end a path, so they take the one round that is left
pub reached_from_path : (n : ℕ) (step : ℕ → List ℕ) {first : ℕ} (p : ℕ) → IsOnPathFrom n step first p → reached_from n step first n p ≡ true
reached_from_path n step {first} p start = reached_start n step first n
reached_from_path zero step p (edge q p' below path leads) = absurd (omega arith)
reached_from_path (suc k) step {first} p (edge q p' below path leads) =
    reached_step (suc k) step first k q p' below (reached_below (suc k) step first k (is_at_rest k step first) q path below) leads
