-- The entries that are given are those that are saved and lie in the range.
use Rattle.std.proofs.Common.{◌≡◌, ◌⊎◌, ◌↔◌, inl, inr, ℕ, zero, suc, ◌+◌, ◌<◌, ◌≤◌, Bool, true, false, not, ◌&&◌, nat_eq, nat_lt, List, [], ◌∷◌, ◌++◌, filter, refl, arith}
use Rattle.std.specs.List.{flat_map, range_with_len}
use Rattle.std.proofs.lemmas.Bool.{cases_Bool, cases_lt, and_parts, and_from, not-true, ltb-true, ltb-false, lt-ltb, le-ltb, eqb-true, eqb-false, not_from_false}
use Rattle.pd_kinds.specs.Graph.{is_outside, block_at}
use Rattle.pd_kinds.specs.Node.{Entry, entry_count, child_at, is_inner_node}
use Rattle.pd_kinds.specs.Layout.{leaf_entries}
use Rattle.pd_laid.specs.Salvage.{is_damaged, child_low, child_high, salvaged_below}
use Rattle.pd_laid.specs.Saved.{ContainsEntry, IsWhole, IsInChild, IsSaved, in_leaf, in_child}

has_cases : (xs ys : List Entry) (e : Entry) → ContainsEntry (xs ++ ys) e → ContainsEntry xs e ⊎ ContainsEntry ys e
has_cases [] ys e has = inr has
has_cases (x ∷ xs) ys e (inl here) = inl (inl here)
has_cases (x ∷ xs) ys e (inr later) = elim (has_cases xs ys e later) [
  | inl first ↦ inl (inr first)
  | inr last ↦ inr last
]

has_first : (xs ys : List Entry) (e : Entry) → ContainsEntry xs e → ContainsEntry (xs ++ ys) e
has_first [] ys e has = absurd has
has_first (x ∷ xs) ys e (inl here) = inl here
has_first (x ∷ xs) ys e (inr later) = inr (has_first xs ys e later)

has_last : (xs ys : List Entry) (e : Entry) → ContainsEntry ys e → ContainsEntry (xs ++ ys) e
has_last [] ys e has = has
has_last (x ∷ xs) ys e has = inr (has_last xs ys e has)

-- lists that are joined along a range
has_joined : (f : ℕ → List Entry) (a n : ℕ) (e : Entry) → ContainsEntry (flat_map f (range_with_len a n)) e → (k : ℕ) × (a ≤ k) × (k < a + n) × ContainsEntry (f k) e
has_joined f a zero e has = absurd has
has_joined f a (suc n) e has = elim (has_cases (f a) (flat_map f (range_with_len (a + 1) n)) e has) [
  | inl here ↦ (a, omega arith, omega arith, here)
  | inr later ↦ let found = has_joined f (a + 1) n e later in let from = found.1 in let below = found.2 in (found.0, omega arith, omega arith, found.3)
]

joined_has : (f : ℕ → List Entry) (a n k : ℕ) (e : Entry) → a ≤ k → k < a + n → ContainsEntry (f k) e → ContainsEntry (flat_map f (range_with_len a n)) e
joined_has f a zero k e from below has = absurd (omega arith)
joined_has f a (suc n) k e from below has = elim (cases_lt a k) [
  | inl later ↦ has_last (f a) _ e (joined_has f (a + 1) n k e (omega arith) (omega arith) has)
  | inr here ↦ let same : k ≡ a = omega arith in has_first (f a) _ e (rw same at has)
]

-- those that pass a test
has_kept : (p : Entry → Bool) (xs : List Entry) (e : Entry) → ContainsEntry (filter p xs) e → ContainsEntry xs e × (p e ≡ true)
has_kept p [] e has = absurd has
has_kept p (x ∷ xs) e has = elim (cases_Bool (p x)) [
  | inl passes ↦ elim (rw passes at has) as (λ _. ContainsEntry (x ∷ xs) e × (p e ≡ true)) [
    | inl here ↦ (inl here, rw here passes)
    | inr later ↦ let rest = has_kept p xs e later in (inr rest.0, rest.1)
  ]
  | inr fails ↦ let rest = has_kept p xs e (rw fails at has) in (inr rest.0, rest.1)
]

kept_has : (p : Entry → Bool) (xs : List Entry) (e : Entry) → ContainsEntry xs e → p e ≡ true → ContainsEntry (filter p xs) e
kept_has p [] e has passes = absurd has
kept_has p (x ∷ xs) e (inl here) passes = rw (rw here at passes) (inl here)
kept_has p (x ∷ xs) e (inr later) passes = elim (cases_Bool (p x)) [
  | inl also ↦ rw also (inr (kept_has p xs e later passes))
  | inr fails ↦ rw fails (kept_has p xs e later passes)
]

-- a range's test
in_range : (low high key : ℕ) → (not (nat_lt key low) && nat_lt key high) ≡ true → (low ≤ key) × (key < high)
in_range low high key passes =
    let parts = and_parts (not (nat_lt key low)) (nat_lt key high) passes in
    (ltb-false key low (not-true (nat_lt key low) parts.0), ltb-true key high parts.1)

range_in : (low high key : ℕ) → low ≤ key → key < high → (not (nat_lt key low) && nat_lt key high) ≡ true
range_in low high key from below =
    and_from (not (nat_lt key low)) (nat_lt key high) (not_from_false (nat_lt key low) (le-ltb key low from)) (lt-ltb key high below)

module _ (size nr : ℕ) (image : List (List ℕ)) where
  -- the children's entries along an inner node
  abbrev children_give : ℕ → ℕ → ℕ → ℕ → ℕ → List Entry
  children_give j place low high i =
      salvaged_below size nr image j (child_at (block_at image place) i) (child_low (block_at image place) low i) (child_high size (block_at image place) high i)

  -- what is given of a node, by what it is
  give_outside : (j place low high : ℕ) (e : Entry) → is_outside nr place ≡ true → ContainsEntry (salvaged_below size nr image (suc j) place low high) e → ⊥
  unfolding salvaged_below
  give_outside j place low high e outside has = rw outside at has

  give_damaged : (j place low high : ℕ) (e : Entry) → is_outside nr place ≡ false → is_damaged size place (block_at image place) ≡ true
      → ContainsEntry (salvaged_below size nr image (suc j) place low high) e → ⊥
  unfolding salvaged_below
  give_damaged j place low high e inside damaged has = rw (inside, damaged) at has

  give_inner : (j place low high : ℕ) → IsWhole size nr image place → is_inner_node (block_at image place) ≡ true
      → salvaged_below size nr image (suc j) place low high ≡ flat_map (children_give j place low high) (range_with_len 0 (entry_count size (block_at image place)))
  unfolding salvaged_below
  give_inner j place low high whole inner = rw (whole.inside, whole.undamaged, inner) refl

  give_leaf : (j place low high : ℕ) → IsWhole size nr image place → is_inner_node (block_at image place) ≡ false
      → salvaged_below size nr image (suc j) place low high
      ≡ filter (λ (e : Entry). not (nat_lt e.key low) && nat_lt e.key high) (leaf_entries size (block_at image place))
  unfolding salvaged_below
  give_leaf j place low high whole leaf = rw (whole.inside, whole.undamaged, leaf) refl

  whole_where : (j place low high : ℕ) (e : Entry) → ContainsEntry (salvaged_below size nr image (suc j) place low high) e → IsWhole size nr image place
  whole_where j place low high e has = elim (cases_Bool (is_outside nr place)) [
    | inl outside ↦ absurd (give_outside j place low high e outside has)
    | inr inside ↦ elim (cases_Bool (is_damaged size place (block_at image place))) [
      | inl damaged ↦ absurd (give_damaged j place low high e inside damaged has)
      | inr sound ↦ record { inside = inside; undamaged = sound }
    ]
  ]

  -- the range of a child, against its ends
  abbrev InRange : ℕ → ℕ → ℕ → Type 0
  InRange low high key = (low ≤ key) × (key < high)

  split_range : (place low high i key : ℕ) → i < entry_count size (block_at image place)
      → InRange (child_low (block_at image place) low i) (child_high size (block_at image place) high i) key
      → IsInChild size (block_at image place) i key × InRange low high key
  split_range place low high i key small range =
      let block = block_at image place in
      let from = range.0 in
      elim (cases_Bool (nat_eq (i + 1) (entry_count size block))) [
        | inl last ↦
            let below = rw last at range.1 in
            let none = eqb-true (i + 1) (entry_count size block) last in
            (record { is_child = small; from = omega arith; below = λ more. absurd (omega arith) }, (omega arith, below))
        | inr more ↦
            let below = rw more at range.1 in
            (record { is_child = small; from = omega arith; below = λ _. omega arith }, (omega arith, omega arith))
      ]

  join_range : (place low high i key : ℕ) → IsInChild size (block_at image place) i key → InRange low high key
      → InRange (child_low (block_at image place) low i) (child_high size (block_at image place) high i) key
  join_range place low high i key child range =
      let block = block_at image place in
      let from = range.0 in
      let below = range.1 in
      let low_too = child.from in
      elim (cases_Bool (nat_eq (i + 1) (entry_count size block))) [
        | inl last ↦ (omega arith, rw last below)
        | inr more ↦
            let other = eqb-false (i + 1) (entry_count size block) more in
            let small = child.is_child in
            let next = child.below (less (i + 1) (entry_count size block) (omega arith) other) in
            (omega arith, rw more (omega arith))
      ]
    where
      less : (m n : ℕ) → m ≤ n → (m ≡ n → ⊥) → m < n
      less m n within differs = elim (cases_lt m n) [
        | inl below ↦ below
        | inr above ↦ absurd (differs (omega arith))
      ]

  saved : (j place low high : ℕ) (e : Entry) → ContainsEntry (salvaged_below size nr image j place low high) e → IsSaved size nr image j place e × InRange low high e.key
  unfolding salvaged_below
  saved zero place low high e has = absurd has
  saved (suc j) place low high e has =
      let whole = whole_where j place low high e has in
      elim (cases_Bool (is_inner_node (block_at image place))) [
        | inl inner ↦
            let found = has_joined (children_give j place low high) 0 (entry_count size (block_at image place)) e (rw (give_inner j place low high whole inner) at has) in
            let i = found.0 in
            let small = found.2 in
            let below = saved j (child_at (block_at image place) i) (child_low (block_at image place) low i) (child_high size (block_at image place) high i) e found.3 in
            let ranges = split_range place low high i e.key (omega arith) below.1 in
            (in_child j place i e whole inner ranges.0 below.0, ranges.1)
        | inr leaf ↦
            let kept = has_kept (λ (e : Entry). not (nat_lt e.key low) && nat_lt e.key high) (leaf_entries size (block_at image place)) e
            (rw (give_leaf j place low high whole leaf) at has) in
            (in_leaf j place e whole leaf kept.0, in_range low high e.key kept.1)
      ]

  give_saved : (j place low high : ℕ) (e : Entry) → IsSaved size nr image j place e → InRange low high e.key → ContainsEntry (salvaged_below size nr image j place low high) e
  give_saved j place low high e (in_leaf k place' e' whole leaf has) range =
      rw (give_leaf k place low high whole leaf)
      (kept_has (λ (e : Entry). not (nat_lt e.key low) && nat_lt e.key high) (leaf_entries size (block_at image place)) e has (range_in low high e.key range.0 range.1))
  give_saved j place low high e (in_child k place' i e' whole inner child below) range =
      let small = child.is_child in
      rw (give_inner k place low high whole inner)
      (joined_has (children_give k place low high) 0 (entry_count size (block_at image place)) i e (omega arith) (omega arith)
      (give_saved k (child_at (block_at image place) i) (child_low (block_at image place) low i) (child_high size (block_at image place) high i) e below
      (join_range place low high i e.key child range)))

  pub given_where_saved : (j place low high : ℕ) (e : Entry)
      → ContainsEntry (salvaged_below size nr image j place low high) e ↔ (IsSaved size nr image j place e × ((low ≤ e.key) × (e.key < high)))
  given_where_saved j place low high e = (saved j place low high e, λ is. give_saved j place low high e is.0 is.1)
