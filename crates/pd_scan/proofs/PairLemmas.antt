-- The best of some pairs, and of more of them.
use Rattle.std.proofs.Common.{◌≡◌, inl, inr, ℕ, ◌≤◌, Bool, true, false, ◌&&◌, ◌||◌, nat_eq, nat_lt, List, [], ◌∷◌, ◌++◌, length, refl, arith, ◌⊎◌, ◌+◌, ◌<◌, max, cond, Option, Some, None, sym, ◌∙◌, ap, subst}
use Rattle.std.proofs.lemmas.Bool.{and_from, and_parts, both_ways, cases_eq, eqb-true, eq-eqb, le-ltb, ltb-false, ltb-true, ne_eqb, or_cases, or_from, or_parts, cases_lt, false_from_ne_true}
use Rattle.std.specs.Option.{option_map}
use Rattle.pd_laid.specs.FoundRoots.{FoundRoots, is_better, is_greater, score_of}
use Rattle.pd_graph.specs.declared.notes.Notes.{Notes}
use Rattle.pd_graph.specs.Notes.{size_of}
use Rattle.pd_measures.specs.Measured.{measure_at}
use Rattle.pd_scan.specs.declared.partners.Partner.{Partner}
use Rattle.pd_scan.specs.declared.partners.Partners.{Partners}
use Rattle.pd_scan.specs.declared.trees.LostTrees.{LostTrees}
use Rattle.pd_scan.specs.Pairs.{IsBest, IsBestOf, better_of, is_partner_of, may_fit, pair_of_trees}
use Rattle.pd_scan.specs.Partners.{ArePartners, ArePartnersBefore, best_partner, by_time, by_transaction, is_partner, partner_at, sum_of, time_at, is_noted_good}

-- The order of lists of numbers by the first in which they differ, and of roots by their scores.

-- of two numbers the greater one decides, and where they are equal what comes after
abbrev decides : ℕ → ℕ → Bool → Bool
decides x y later = nat_lt y x || (nat_eq x y && later)

equal_passes : (x y : ℕ) (later : Bool) → (nat_eq x y && later) ≡ false → x ≡ y → later ≡ false
equal_passes x y true e same = absurd (both_ways (nat_eq x y && true) e (and_from (nat_eq x y) true (eq-eqb x y same) refl))
equal_passes x y false e same = refl

passes_equal : (x y : ℕ) (later : Bool) → (x ≡ y → later ≡ false) → (nat_eq x y && later) ≡ false
passes_equal x y later e = elim (cases_eq x y) [
  | inl same ↦ rw (eq-eqb x y same) (e same)
  | inr ne ↦ rw (ne_eqb x y ne) refl
]

parts_of : (x y : ℕ) (later : Bool) → decides x y later ≡ false → (x ≤ y) × (x ≡ y → later ≡ false)
parts_of x y later e =
    let parts = or_parts (nat_lt y x) (nat_eq x y && later) e in
    (ltb-false y x parts.0, equal_passes x y later parts.1)

from_parts : (x y : ℕ) (later : Bool) → x ≤ y → (x ≡ y → later ≡ false) → decides x y later ≡ false
from_parts x y later order e = or_from (nat_lt y x) (nat_eq x y && later) (le-ltb y x order) (passes_equal x y later e)

-- a list isn't greater where its first number is no greater, and at the same one the rest isn't
pub first_parts : (x y : ℕ) (xs ys : List ℕ) → is_greater (x ∷ xs) (y ∷ ys) ≡ false → (x ≤ y) × (x ≡ y → is_greater xs ys ≡ false)
first_parts x y xs ys e = parts_of x y (is_greater xs ys) e

pub first_from : (x y : ℕ) (xs ys : List ℕ) → x ≤ y → (x ≡ y → is_greater xs ys ≡ false) → is_greater (x ∷ xs) (y ∷ ys) ≡ false
first_from x y xs ys order e = from_parts x y (is_greater xs ys) order e

-- what isn't greater than what isn't greater
pub not_greater_over : (xs ys zs : List ℕ) → is_greater xs ys ≡ false → is_greater ys zs ≡ false → is_greater xs zs ≡ false
not_greater_over [] ys zs first second = refl
not_greater_over (x ∷ xs) [] zs first second = absurd (both_ways true first refl)
not_greater_over (x ∷ xs) (y ∷ ys) [] first second = absurd (both_ways true second refl)
not_greater_over (x ∷ xs) (y ∷ ys) (z ∷ zs) first second =
    let a = first_parts x y xs ys first in
    let b = first_parts y z ys zs second in
    first_from x z xs zs (omega arith) (λ e. not_greater_over xs ys zs (a.1 (omega arith)) (b.1 (omega arith)))

-- what is greater isn't so the other way round
pub not_greater_back : (xs ys : List ℕ) → is_greater xs ys ≡ true → is_greater ys xs ≡ false
not_greater_back [] ys e = absurd (both_ways false refl e)
not_greater_back (x ∷ xs) [] e = refl
not_greater_back (x ∷ xs) (y ∷ ys) e = elim (or_cases (nat_lt y x) (nat_eq x y && is_greater xs ys) e) [
  | inl less ↦ let order = ltb-true y x less in first_from y x ys xs (omega arith) (λ same. absurd (omega arith))
  | inr later ↦
      let parts = and_parts (nat_eq x y) (is_greater xs ys) later in
      let same = eqb-true x y parts.0 in
      first_from y x ys xs (omega arith) (λ e. not_greater_back xs ys parts.1)
]

-- nothing is greater than itself
pub not_greater_self : (xs : List ℕ) → is_greater xs xs ≡ false
not_greater_self [] = refl
not_greater_self (x ∷ xs) = first_from x x xs xs (omega arith) (λ e. not_greater_self xs)

-- lists that aren't greater, up to places of one number
pub not_greater_start : (xs ys ps qs : List ℕ) → length xs ≡ length ys → is_greater (xs ++ ps) (ys ++ qs) ≡ false → is_greater xs ys ≡ false
not_greater_start [] ys ps qs same e = refl
not_greater_start (x ∷ xs) [] ps qs same e = absurd (omega (arith, same))
not_greater_start (x ∷ xs) (y ∷ ys) ps qs same e =
    let parts = first_parts x y (xs ++ ps) (ys ++ qs) e in
    let rest : length xs ≡ length ys = omega (arith, same) in
    first_from x y xs ys parts.0 (λ equal. not_greater_start xs ys ps qs rest (parts.1 equal))

pub not_better_over : (a b c : FoundRoots) → is_better a b ≡ false → is_better b c ≡ false → is_better a c ≡ false
unfolding is_better
not_better_over a b c first second = not_greater_over (score_of a) (score_of b) (score_of c) first second

pub not_better_back : (a b : FoundRoots) → is_better a b ≡ true → is_better b a ≡ false
unfolding is_better
not_better_back a b e = not_greater_back (score_of a) (score_of b) e

pub not_better_self : (a : FoundRoots) → is_better a a ≡ false
unfolding is_better
not_better_self a = not_greater_self (score_of a)

-- with the same mappings and the same top, an earlier time isn't better; at the same time an earlier transaction isn't, and
-- in the same one a lower block
pub not_better_from : (a b : FoundRoots) → a.mappings ≡ b.mappings → a.times ≡ b.times → a.top ≡ b.top → a.time ≤ b.time
    → (a.time ≡ b.time → is_greater (a.transaction ∷ a.details ∷ []) (b.transaction ∷ b.details ∷ []) ≡ false) → is_better a b ≡ false
unfolding is_better
not_better_from a b mappings times top time later =
    from_parts a.time b.time _ time (λ same.
    let parts = first_parts a.transaction b.transaction (a.details ∷ []) (b.details ∷ []) (later same) in
    from_parts a.transaction b.transaction _ parts.0 (λ e.
    from_parts a.times b.times _ (omega arith) (λ one.
    from_parts a.mappings b.mappings _ (omega arith) (λ two.
    from_parts a.top b.top _ (omega arith) (λ three. parts.1 e)))))

module _ (fits : ℕ → ℕ → Bool) (pair : ℕ → ℕ → FoundRoots) (A B C : ℕ → ℕ → Type 0) (each : (t d : ℕ) → C t d → A t d ⊎ B t d) where
  none_of_both : IsBestOf fits pair A None → IsBestOf fits pair B None → IsBestOf fits pair C None
  none_of_both first second t d among = elim (each t d among) [ inl a ↦ first t d a | inr b ↦ second t d b ]

  -- the best of the first ones, where none of the others fits or is better
  first_of_both : (best : FoundRoots) → IsBest fits pair A best → ((t d : ℕ) → B t d → fits t d ≡ true → is_better (pair t d) best ≡ false) → IsBest fits pair C best
  first_of_both best first second = record {
    fitting = first.fitting;
    numbers = first.numbers;
    none_better = λ t d among fit. elim (each t d among) [ inl a ↦ first.none_better t d a fit | inr b ↦ second t d b fit ];
  }

  second_of_both : (best : FoundRoots) → ((t d : ℕ) → A t d → fits t d ≡ true → is_better (pair t d) best ≡ false) → IsBest fits pair B best → IsBest fits pair C best
  second_of_both best first second = record {
    fitting = second.fitting;
    numbers = second.numbers;
    none_better = λ t d among fit. elim (each t d among) [ inl a ↦ first t d a fit | inr b ↦ second.none_better t d b fit ];
  }

  better_of_both : (old new : FoundRoots) (better : Bool) → is_better new old ≡ better → IsBest fits pair A old → IsBest fits pair B new
      → IsBestOf fits pair C (cond better (Some new) (Some old))
  better_of_both old new true e first second =
      second_of_both new (λ t d a fit. not_better_over (pair t d) old new (first.none_better t d a fit) (not_better_back new old e)) second
  better_of_both old new false e first second =
      first_of_both old first (λ t d b fit. not_better_over (pair t d) new old (second.none_better t d b fit) e)

  -- the best of some pairs and of others
  pub best_of_both : (first second : Option FoundRoots) → IsBestOf fits pair A first → IsBestOf fits pair B second → IsBestOf fits pair C (better_of first second)
  best_of_both None None a b = none_of_both a b
  best_of_both (Some old) None a b = first_of_both old a (λ t d among fit. absurd (both_ways (fits t d) (b t d among) fit))
  best_of_both None (Some new) a b = second_of_both new (λ t d among fit. absurd (both_ways (fits t d) (a t d among) fit)) b
  best_of_both (Some old) (Some new) a b = better_of_both old new (is_better new old) refl a b

-- it is so too of fewer pairs that fit, where the best one is among these
pub none_of_fewer : (may fits : ℕ → ℕ → Bool) (pair : ℕ → ℕ → FoundRoots) (A : ℕ → ℕ → Type 0) → ((t d : ℕ) → fits t d ≡ true → may t d ≡ true)
    → IsBestOf may pair A None → IsBestOf fits pair A None
none_of_fewer may fits pair A fewer none t d among = false_from_ne_true (fits t d) (λ e. both_ways (may t d) (none t d among) (fewer t d e))

pub best_of_fewer : (may fits : ℕ → ℕ → Bool) (pair : ℕ → ℕ → FoundRoots) (A : ℕ → ℕ → Type 0) → ((t d : ℕ) → fits t d ≡ true → may t d ≡ true)
    → (best : FoundRoots) → fits best.top best.details ≡ true → IsBest may pair A best → IsBest fits pair A best
best_of_fewer may fits pair A fewer best fit is = record {
  fitting = fit;
  numbers = is.numbers;
  none_better = λ t d among e. is.none_better t d among (fewer t d e);
}

-- a pair of trees has the places of both
pub pair_top : (trees : LostTrees) (top details : ℕ) → (pair_of_trees trees top details).top ≡ top
unfolding pair_of_trees
pair_top trees top details = refl

pub pair_details : (trees : LostTrees) (top details : ℕ) → (pair_of_trees trees top details).details ≡ details
unfolding pair_of_trees
pair_details trees top details = refl

-- a top before the next one
pub one_top : (n t : ℕ) → t < n + 1 → (t < n) ⊎ (t ≡ n)
one_top n t less = elim (cases_lt t n) [ inl before ↦ inl before | inr last ↦ inr (omega arith) ]

module _ (trees : LostTrees) where
  fitting_parts : (top details : ℕ) → may_fit trees top details ≡ true → (is_noted_good trees.tops top ≡ true)
      × (is_partner_of trees top details ≡ true)
  unfolding may_fit
  fitting_parts top details e = and_parts (is_noted_good trees.tops top) _ e

  good_inside : (notes : Notes) (b : ℕ) → is_noted_good notes b ≡ true → b < size_of notes
  good_inside notes b e = ltb-true b (size_of notes) (and_parts (nat_lt b (size_of notes)) _ e).0

  partner_inside : (sum : ℕ × ℕ) (d : ℕ) → is_partner trees.details trees.details_measures sum d ≡ true → d < size_of trees.details
  unfolding is_partner
  partner_inside sum d e = good_inside trees.details d (and_parts (is_noted_good trees.details d) _ e).0

  -- trees that may fit are among all
  pub fitting_inside : (top details : ℕ) → may_fit trees top details ≡ true → (top < size_of trees.tops) × (details < size_of trees.details)
  fitting_inside top details e =
      let parts = fitting_parts top details e in
      (good_inside trees.tops top parts.0, partner_inside (sum_of (measure_at trees.top_measures top)) details parts.1)

  module _ (top : ℕ) where
    -- no tree may fit one that isn't sound
    pub none_of_top : is_noted_good trees.tops top ≡ false → IsBestOf (may_fit trees) (pair_of_trees trees) (λ t d. t ≡ top) None
    none_of_top bad t d same =
        false_from_ne_true (may_fit trees t d)
        (λ e. both_ways (is_noted_good trees.tops t) (ap (is_noted_good trees.tops) same ∙ bad) (fitting_parts t d e).0)

    passing : (t d : ℕ) → t ≡ top → may_fit trees t d ≡ true → is_partner_of trees top d ≡ true
    passing t d same e = (fitting_parts top d (ap (λ (x : ℕ). may_fit trees x d) (sym same) ∙ e)).1

    no_partner : ArePartnersBefore (is_partner_of trees top) (partner_at trees.details_measures)
        (size_of trees.details) None → IsBestOf (may_fit trees) (pair_of_trees trees) (λ t d. t ≡ top) None
    no_partner none t d same =
        false_from_ne_true (may_fit trees t d)
        (λ e. let p = passing t d same e in both_ways _ (none d (partner_inside (sum_of (measure_at trees.top_measures top)) d p)) p)

    module _ (good : is_noted_good trees.tops top ≡ true) (partners : Partners)
        (are : ArePartners (is_partner_of trees top) (partner_at trees.details_measures)
        (size_of trees.details) partners) where
      with_partner : (b : ℕ) → is_partner_of trees top b ≡ true → may_fit trees top b ≡ true
      unfolding may_fit
      with_partner b p = and_from (is_noted_good trees.tops top) _ good p

      abbrev time : ℕ
      time = time_at trees.top_measures top

      abbrev tree : ℕ → Partner
      tree d = partner_at trees.details_measures d

      -- a partner is the best one where each other one gives no later time, and at the same time is no newer
      by_partner : (b : ℕ) → is_partner_of trees top b ≡ true
          → ((d : ℕ) → d < size_of trees.details → is_partner_of trees top d ≡ true
          → (max time (tree d).time ≤ max time (tree b).time)
          × (max time (tree d).time ≡ max time (tree b).time → is_greater (by_transaction (tree d)) (by_transaction (tree b)) ≡ false))
          → IsBest (may_fit trees) (pair_of_trees trees) (λ t d. t ≡ top) (pair_of_trees trees top b)
      unfolding pair_of_trees
      by_partner b p best = record {
        fitting = with_partner b p;
        numbers = refl;
        none_better = λ t d same fit.
            let q = passing t d same fit in
            let order = best d (partner_inside (sum_of (measure_at trees.top_measures top)) d q) q in
            subst (λ (x : ℕ). is_better (pair_of_trees trees x d) (pair_of_trees trees top b) ≡ false) (sym same)
            (not_better_from (pair_of_trees trees top d) (pair_of_trees trees top b) refl refl refl order.0 order.1);
      }

      -- no other one is later than the latest one, and at its time none is newer
      none_later : (d : ℕ) → d < size_of trees.details → is_partner_of trees top d ≡ true
          → ((tree d).time ≤ (tree partners.latest.root).time)
          × ((tree d).time ≡ (tree partners.latest.root).time → is_greater (by_transaction (tree d)) (by_transaction (tree partners.latest.root)) ≡ false)
      none_later d small p =
          first_parts (tree d).time (tree partners.latest.root).time (by_transaction (tree d)) (by_transaction (tree partners.latest.root))
          (subst (λ (one : Partner). is_greater (by_time (tree d)) (by_time one) ≡ false) are.latest.told (are.latest.none_greater d small p))

      none_newer : (d : ℕ) → d < size_of trees.details → is_partner_of trees top d ≡ true
          → is_greater (by_transaction (tree d)) (by_transaction (tree partners.newest.root)) ≡ false
      none_newer d small p =
          subst (λ (one : Partner). is_greater (by_transaction (tree d)) (by_transaction one) ≡ false) are.newest.told (are.newest.none_greater d small p)

      by_their_time : (is_later : Bool) → nat_lt time partners.latest.time ≡ is_later
          → IsBest (may_fit trees) (pair_of_trees trees) (λ t d. t ≡ top) (pair_of_trees trees top (cond is_later partners.latest.root partners.newest.root))
      by_their_time true e =
          let later = ltb-true time partners.latest.time e in
          let same : partners.latest.time ≡ (tree partners.latest.root).time = ap (λ (one : Partner). one.time) are.latest.told in
          by_partner partners.latest.root are.latest.fit (λ d small p.
          let order = none_later d small p in
          let most = order.0 in
          (omega arith, λ e. order.1 (omega arith)))
      by_their_time false e =
          let early = ltb-false time partners.latest.time e in
          let same : partners.latest.time ≡ (tree partners.latest.root).time = ap (λ (one : Partner). one.time) are.latest.told in
          let own = (none_later partners.newest.root are.newest.small are.newest.fit).0 in
          by_partner partners.newest.root are.newest.fit (λ d small p.
          let most = (none_later d small p).0 in
          (omega arith, λ e. none_newer d small p))

    -- the best partner of a sound mapping tree makes the best pair
    pub best_of_top : is_noted_good trees.tops top ≡ true → (partners : Option Partners)
        → ArePartnersBefore (is_partner_of trees top) (partner_at trees.details_measures)
        (size_of trees.details) partners
        → IsBestOf (may_fit trees) (pair_of_trees trees) (λ t d. t ≡ top) (option_map (λ (p : Partners). pair_of_trees trees top (best_partner p (time_at trees.top_measures top))) partners)
    best_of_top good None none = no_partner none
    best_of_top good (Some partners) are = by_their_time good partners are (nat_lt (time_at trees.top_measures top) partners.latest.time) refl
