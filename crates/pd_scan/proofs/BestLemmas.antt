-- The best of some roots and roots in order, as lists give them, and what is the best of some pairs.
use Rattle.std.proofs.Common.{◌≡◌, ◌⊎◌, inl, inr, ℕ, zero, suc, ◌+◌, ◌<◌, ◌≤◌, Bool, true, false, cond, List, [], ◌∷◌, length, map, filter, take, get_or, Option, Some, None, IfSome, refl, sym, ◌∙◌, ap, ap₂, subst, arith}
use Rattle.std.specs.List.{AllByRecursion, cons_option, filter_map, range_with_len}
use Rattle.std.proofs.lemmas.Bool.{both_ways, cases_eq, false_from_ne_true}
use Rattle.pd_laid.specs.FoundRoots.{FoundRoots, is_better, is_greater, score_of}
use Rattle.pd_answers.specs.FoundStates.{best_of, better_of_two, in_order, placed}
use Rattle.pd_scan.specs.Pairs.{IsBest, IsBestOf, better_of, best_among, first_of}
use Rattle.pd_scan.proofs.PairLemmas.{first_parts, not_better_self, best_of_both}

-- lists of one length of which none is greater are one
same_lists : (xs ys : List ℕ) → length xs ≡ length ys → is_greater xs ys ≡ false → is_greater ys xs ≡ false → xs ≡ ys
same_lists [] [] same first second = refl
same_lists [] (y ∷ ys) same first second = absurd (omega (arith, same))
same_lists (x ∷ xs) [] same first second = absurd (omega (arith, same))
same_lists (x ∷ xs) (y ∷ ys) same first second =
    let a = first_parts x y xs ys first in
    let b = first_parts y x ys xs second in
    let rest : length xs ≡ length ys = omega (arith, same) in
    let equal : x ≡ y = omega arith in
    ap₂ (λ (z : ℕ) (zs : List ℕ). z ∷ zs) equal (same_lists xs ys rest (a.1 equal) (b.1 (sym equal)))

-- roots by what they are compared by
abbrev by_score : List ℕ → FoundRoots
by_score score = record {
  top = get_or score 4 0;
  details = get_or score 5 0;
  mappings = get_or score 3 0;
  time = get_or score 0 0;
  transaction = get_or score 1 0;
  times = get_or score 2 0;
}

-- roots of which none are better are one
pub same_roots : (a b : FoundRoots) → is_better a b ≡ false → is_better b a ≡ false → a ≡ b
unfolding is_better
same_roots a b first second = ap by_score (same_lists (score_of a) (score_of b) refl first second)

-- what holds of all roots holds of the best ones
two_have : (P : FoundRoots → Type 0) (roots : FoundRoots) (best : Option FoundRoots) → P roots → IfSome best P → P (better_of_two roots best)
two_have P roots None own other = own
two_have P roots (Some best) own other = chosen (is_better best roots)
  where
    chosen : (b : Bool) → P (cond b best roots)
    chosen true = other
    chosen false = own

pub best_has : (P : FoundRoots → Type 0) (xs : List FoundRoots) → AllByRecursion P xs → IfSome (best_of xs) P
best_has P [] all = tt
best_has P (x ∷ xs) all = two_have P x (best_of xs) all.0 (best_has P xs all.1)

-- what holds of the pairs of trees that pass
pub pairs_have : (P : FoundRoots → Type 0) (test : ℕ → Bool) (pair : ℕ → FoundRoots) → ((d : ℕ) → test d ≡ true → P (pair d)) → (ds : List ℕ)
    → AllByRecursion P (map pair (filter test ds))
pairs_have P test pair has [] = tt
pairs_have P test pair has (d ∷ ds) = chosen (test d) refl (pairs_have P test pair has ds)
  where
    chosen : (b : Bool) → test d ≡ b → AllByRecursion P (map pair (filter test ds)) → AllByRecursion P (map pair (cond b (d ∷ filter test ds) (filter test ds)))
    chosen true e rest = (has d e, rest)
    chosen false e rest = rest

-- what holds of roots holds of roots in order
pub placed_have : (P : FoundRoots → Type 0) (roots : FoundRoots) (xs : List FoundRoots) → P roots → AllByRecursion P xs → AllByRecursion P (placed roots xs)
placed_have P roots [] own all = (own, tt)
placed_have P roots (x ∷ xs) own all = chosen (is_better roots x) (placed_have P roots xs own all.1)
  where
    chosen : (b : Bool) → AllByRecursion P (placed roots xs) → AllByRecursion P (cond b (roots ∷ x ∷ xs) (x ∷ placed roots xs))
    chosen true rest = (own, all)
    chosen false rest = (all.0, rest)

pub ordered_have : (P : FoundRoots → Type 0) (f : ℕ → Option FoundRoots) → ((top : ℕ) → IfSome (f top) P) → (tops : List ℕ)
    → AllByRecursion P (in_order (filter_map f tops))
ordered_have P f has [] = tt
ordered_have P f has (top ∷ tops) = with_one (f top) (has top) (ordered_have P f has tops)
  where
    with_one : (o : Option FoundRoots) → IfSome o P → AllByRecursion P (in_order (filter_map f tops)) → AllByRecursion P (in_order (cons_option o (filter_map f tops)))
    with_one None own rest = rest
    with_one (Some roots) own rest = placed_have P roots (in_order (filter_map f tops)) own rest

-- the better ones, as an option
two_better : (roots : FoundRoots) (best : Option FoundRoots) → better_of (Some roots) best ≡ Some (better_of_two roots best)
two_better roots None = refl
two_better roots (Some best) = chosen (is_better best roots)
  where
    chosen : (b : Bool) → cond b (Some best) (Some roots) ≡ Some (cond b best roots)
    chosen true = refl
    chosen false = refl

none_better : (best : Option FoundRoots) → better_of None best ≡ best
none_better None = refl
none_better (Some best) = refl

-- the first ones of roots in order are the better ones of each and of the others
first_placed : (roots : FoundRoots) (xs : List FoundRoots) → first_of (placed roots xs) ≡ better_of (first_of xs) (Some roots)
first_placed roots [] = refl
first_placed roots (x ∷ xs) = chosen (is_better roots x)
  where
    chosen : (b : Bool) → first_of (cond b (roots ∷ x ∷ xs) (x ∷ placed roots xs)) ≡ cond b (Some roots) (Some x)
    chosen true = refl
    chosen false = refl

first_in_order : (o : Option FoundRoots) (xs : List FoundRoots) → first_of (in_order (cons_option o xs)) ≡ better_of (first_of (in_order xs)) o
first_in_order None xs = refl
first_in_order (Some roots) xs = first_placed roots (in_order xs)

-- the best of some pairs is so too of others, of which only those fit that are among the first
pub best_of_same : (fits : ℕ → ℕ → Bool) (pair : ℕ → ℕ → FoundRoots) (A B : ℕ → ℕ → Type 0) → ((t d : ℕ) → B t d → fits t d ≡ true → A t d)
    → (found : Option FoundRoots) → IsBestOf fits pair A found → IsBestOf fits pair B found
best_of_same fits pair A B among None none = λ t d is. false_from_ne_true (fits t d) (λ e. both_ways (fits t d) (none t d (among t d is e)) e)
best_of_same fits pair A B among (Some best) are = record {
  fitting = are.fitting;
  numbers = are.numbers;
  none_better = λ t d is e. are.none_better t d (among t d is e) e;
}

module _ (fits : ℕ → ℕ → Bool) (pair : ℕ → ℕ → FoundRoots) (its_top : (t d : ℕ) → (pair t d).top ≡ t) (its_details : (t d : ℕ) → (pair t d).details ≡ d) where
  -- a pair that fits is the best one of itself
  best_of_one : (t d : ℕ) → fits t d ≡ true → IsBest fits pair (λ x y. (x ≡ t) × (y ≡ d)) (pair t d)
  best_of_one t d e = record {
    fitting = ap₂ fits (its_top t d) (its_details t d) ∙ e;
    numbers = sym (ap₂ pair (its_top t d) (its_details t d));
    none_better = λ x y same fit. subst (λ (r : FoundRoots). is_better r (pair t d) ≡ false) (sym (ap₂ pair same.0 same.1)) (not_better_self (pair t d));
  }

  -- a mapping tree, and a range of details trees
  abbrev InRange : ℕ → ℕ → ℕ → ℕ → ℕ → Type 0
  InRange top a n t d = (t ≡ top) × ((a ≤ d) × (d < a + n))

  -- a tree is the first one of a range, or one of the others
  one_or_others : (top a n t d : ℕ) → InRange top a (suc n) t d → ((t ≡ top) × (d ≡ a)) ⊎ InRange top (a + 1) n t d
  one_or_others top a n t d is = elim (cases_eq d a) [
    | inl same ↦ inl (is.0, same)
    | inr ne ↦ let low = is.1.0 in let high = is.1.1 in inr (is.0, (omega arith, omega arith))
  ]

  -- the best of a range of details trees that fit a mapping tree
  best_in_range : (top a n : ℕ) → IsBestOf fits pair (InRange top a n) (best_of (map (pair top) (filter (fits top) (range_with_len a n))))
  best_in_range top a zero = λ t d is. let low = is.1.0 in let high = is.1.1 in absurd (omega arith)
  best_in_range top a (suc n) = chosen (fits top a) refl (best_in_range top (a + 1) n)
    where
      chosen : (b : Bool) → fits top a ≡ b
          → IsBestOf fits pair (InRange top (a + 1) n) (best_of (map (pair top) (filter (fits top) (range_with_len (a + 1) n))))
          → IsBestOf fits pair (InRange top a (suc n)) (best_of (map (pair top) (cond b (a ∷ filter (fits top) (range_with_len (a + 1) n)) (filter (fits top) (range_with_len (a + 1) n)))))
      chosen true e others =
          let rest = best_of (map (pair top) (filter (fits top) (range_with_len (a + 1) n))) in
          subst (IsBestOf fits pair (InRange top a (suc n))) (two_better (pair top a) rest)
          (best_of_both fits pair (λ t d. (t ≡ top) × (d ≡ a)) (InRange top (a + 1) n) (InRange top a (suc n)) (λ t d is. one_or_others top a n t d is)
          (Some (pair top a)) rest (best_of_one top a e) others)
      chosen false e others =
          let rest = best_of (map (pair top) (filter (fits top) (range_with_len (a + 1) n))) in
          subst (IsBestOf fits pair (InRange top a (suc n))) (none_better rest)
          (best_of_both fits pair (λ t d. (t ≡ top) × (d ≡ a)) (InRange top (a + 1) n) (InRange top a (suc n)) (λ t d is. one_or_others top a n t d is)
          None rest (λ t d is. ap₂ fits is.0 is.1 ∙ e) others)

  module _ (nr : ℕ) (inside : (t d : ℕ) → fits t d ≡ true → d < nr) where
    -- the best pair of a mapping tree, of all that fit it
    pub best_of_all : (top : ℕ) → IsBestOf fits pair (λ t d. t ≡ top) (best_among fits pair nr top)
    best_of_all top =
        best_of_same fits pair (InRange top 0 nr) (λ t d. t ≡ top)
        (λ t d is e. let less = inside t d e in (is, (omega arith, omega arith))) (best_among fits pair nr top) (best_in_range top 0 nr)

    own_top : (top : ℕ) → IfSome (best_among fits pair nr top) (λ (best : FoundRoots). best.top ≡ top)
    own_top top =
        best_has (λ (best : FoundRoots). best.top ≡ top) (map (pair top) (filter (fits top) (range_with_len 0 nr)))
        (pairs_have (λ (best : FoundRoots). best.top ≡ top) (fits top) (pair top) (λ d e. its_top top d) (range_with_len 0 nr))

    -- it is the only one
    only_one : (top : ℕ) (first second : Option FoundRoots) → IsBestOf fits pair (λ t d. t ≡ top) first → IsBestOf fits pair (λ t d. t ≡ top) second
        → IfSome first (λ (best : FoundRoots). best.top ≡ top) → IfSome second (λ (best : FoundRoots). best.top ≡ top) → first ≡ second
    only_one top None None a b own other = refl
    only_one top (Some one) None a b own other = absurd (both_ways (fits one.top one.details) (b one.top one.details own) a.fitting)
    only_one top None (Some two) a b own other = absurd (both_ways (fits two.top two.details) (a two.top two.details other) b.fitting)
    only_one top (Some one) (Some two) a b own other =
        ap (λ (r : FoundRoots). Some r)
        (same_roots one two (subst (λ (r : FoundRoots). is_better r two ≡ false) (sym a.numbers) (b.none_better one.top one.details own a.fitting))
        (subst (λ (r : FoundRoots). is_better r one ≡ false) (sym b.numbers) (a.none_better two.top two.details other b.fitting)))

    pub best_is : (top : ℕ) (found : Option FoundRoots) → IsBestOf fits pair (λ t d. t ≡ top) found → IfSome found (λ (best : FoundRoots). best.top ≡ top)
        → found ≡ best_among fits pair nr top
    best_is top found is own = only_one top found (best_among fits pair nr top) is (best_of_all top) own (own_top top)

    -- the first ones in order are the best of all pairs
    pub first_is_best : (a n : ℕ) → IsBestOf fits pair (λ t d. (a ≤ t) × (t < a + n)) (first_of (in_order (filter_map (best_among fits pair nr) (range_with_len a n))))
    first_is_best a zero = λ t d is. let low = is.0 in let high = is.1 in absurd (omega arith)
    first_is_best a (suc n) =
        let rest = filter_map (best_among fits pair nr) (range_with_len (a + 1) n) in
        subst (IsBestOf fits pair (λ t d. (a ≤ t) × (t < a + suc n))) (sym (first_in_order (best_among fits pair nr a) rest))
        (best_of_both fits pair (λ t d. (a + 1 ≤ t) × (t < a + 1 + n)) (λ t d. t ≡ a) (λ t d. (a ≤ t) × (t < a + suc n)) (λ t d is. top_or_others a n t is)
        (first_of (in_order rest)) (best_among fits pair nr a) (first_is_best (a + 1) n) (best_of_all a))
      where
        top_or_others : (a n t : ℕ) → (a ≤ t) × (t < a + suc n) → ((a + 1 ≤ t) × (t < a + 1 + n)) ⊎ (t ≡ a)
        top_or_others a n t is = elim (cases_eq t a) [
          | inl same ↦ inr same
          | inr ne ↦ let low = is.0 in let high = is.1 in inl (omega arith, omega arith)
        ]
