-- Of the roots of trees that fit each other some are the best, or there are none.
use Rattle.std.proofs.Common.{◌≡◌, inl, inr, ℕ, zero, suc, ◌<◌, true, false, not, cond, List, Option, Some, None, IfSome, refl, sym, ◌∙◌, ap, subst, arith}
use Rattle.std.proofs.lemmas.Bool.{and_parts, cases_Bool, cases_lt}
use Rattle.std.proofs.lemmas.Option.{IfSome_then}
use Rattle.std.proofs.lemmas.Bool.Decides.{nat_tests}
use Rattle.pd_kinds.specs.Graph.{Graph, is_outside}
use Rattle.pd_laid.specs.FoundRoots.{FoundRoots, IsFound, are_fitting, is_better, is_sound_tree, lost_graph, roots_at}
use Rattle.pd_scan.proofs.PairLemmas.{not_better_back, not_better_over, not_better_self}

-- candidates, one for each number, where there is one; and what is best of those below n
abbrev Candidates : Type 0
Candidates = ℕ → Option FoundRoots

record IsBestBelow (candidates : Candidates) (n : ℕ) (best : FoundRoots) : Type 0 where
  place : ℕ
  below : place < n
  candidate : candidates place ≡ Some best
  others : (k : ℕ) → k < n → IfSome (candidates k) (λ other. is_better other best ≡ false)

abbrev IsChosenBelow : Candidates → ℕ → Option FoundRoots → Type 0
IsChosenBelow candidates n None = (k : ℕ) → k < n → candidates k ≡ None
IsChosenBelow candidates n (Some best) = IsBestBelow candidates n best

-- what holds of each number below n and of n
one_more : {P : ℕ → Type 0} (n : ℕ) → ((k : ℕ) → k < n → P k) → P n → (k : ℕ) → k < suc n → P k
one_more {P} n all here k small = elim (cases_lt k n) [
  | inl below ↦ all k below
  | inr above ↦ let same : n ≡ k = omega arith in subst P same here
]

next_chosen : (candidates : Candidates) (n : ℕ) (so_far : Option FoundRoots) → IsChosenBelow candidates n so_far
    → (here : Option FoundRoots) → candidates n ≡ here → (chosen : Option FoundRoots) × IsChosenBelow candidates (suc n) chosen
next_chosen candidates n None none None is = (None, one_more n none is)
next_chosen candidates n None none (Some other) is = (
  Some other,
  record {
    place = n;
    below = omega arith;
    candidate = is;
    others = one_more n (λ k small. rw (none k small) tt) (rw is (not_better_self other));
  },
)
next_chosen candidates n (Some best) is_best None is = (
  Some best,
  record { place = is_best.place; below = let b = is_best.below in omega arith; candidate = is_best.candidate; others = one_more n is_best.others (rw is tt) },
)
next_chosen candidates n (Some best) is_best (Some other) is = elim (cases_Bool (is_better other best)) [
  | inl better ↦ (
    Some other,
    record {
      place = n;
      below = omega arith;
      candidate = is;
      others = one_more n (λ k small. IfSome_then (candidates k) (is_best.others k small) (λ x worse. not_better_over x best other worse (not_better_back other best better))) (rw is (not_better_self other));
    },
  )
  | inr worse ↦ (
    Some best,
    record { place = is_best.place; below = let b = is_best.below in omega arith; candidate = is_best.candidate; others = one_more n is_best.others (rw is worse) },
  )
]

chosen_below : (candidates : Candidates) (n : ℕ) → (chosen : Option FoundRoots) × IsChosenBelow candidates n chosen
chosen_below candidates zero = (None, λ k small. absurd (omega arith))
chosen_below candidates (suc n) =
    let before = chosen_below candidates n in next_chosen candidates n before.0 before.1 (candidates n) refl

-- a root that isn't outside is inside
inside_of : (nr b : ℕ) → not (is_outside nr b) ≡ true → b < nr
inside_of nr b e = grind (arith, nat_tests)

not_both : (roots : FoundRoots) (found : Option FoundRoots) → found ≡ None → found ≡ Some roots → ⊥
not_both roots found none some = cc

module _ (graph : Graph) (image : List (List ℕ)) where
  -- roots that fit each other, where these do
  candidate : ℕ → ℕ → Option FoundRoots
  candidate top details = cond (are_fitting graph image top details) (Some (roots_at graph image top details)) None

  candidate_is : (top details : ℕ) → are_fitting graph image top details ≡ true → candidate top details ≡ Some (roots_at graph image top details)
  unfolding candidate
  candidate_is top details fits = rw fits refl

  candidate_fits : (top details : ℕ) (roots : FoundRoots) → candidate top details ≡ Some roots
      → (are_fitting graph image top details ≡ true) × (roots ≡ roots_at graph image top details)
  unfolding candidate
  candidate_fits top details roots is = elim (cases_Bool (are_fitting graph image top details)) [
    | inl fits ↦ let same : Some (roots_at graph image top details) ≡ Some roots = rw fits at is in (fits, cc)
    | inr apart ↦ absurd (not_both roots (cond (are_fitting graph image top details) (Some (roots_at graph image top details)) None) (rw apart refl) is)
  ]

  tree_inside : (role root : ℕ) → is_sound_tree graph image role root ≡ true → root < graph.nr
  unfolding is_sound_tree
  tree_inside role root sound = inside_of graph.nr root (and_parts (not (is_outside graph.nr root)) _ sound).0

  both_inside : (top details : ℕ) → are_fitting graph image top details ≡ true → (top < graph.nr) × (details < graph.nr)
  unfolding are_fitting
  both_inside top details fits =
      let parts = and_parts (is_sound_tree graph image 2 top) _ fits in
      (tree_inside 2 top parts.0, tree_inside 4 details (and_parts (is_sound_tree graph image 4 details) _ parts.1).0)

  -- the best for each top, and of these
  for_top : (top : ℕ) → (chosen : Option FoundRoots) × IsChosenBelow (candidate top) graph.nr chosen
  for_top top = chosen_below (candidate top) graph.nr

  of_all : (chosen : Option FoundRoots) × IsChosenBelow (λ top. (for_top top).0) graph.nr chosen
  of_all = chosen_below (λ top. (for_top top).0) graph.nr

  none_for_top : (top details : ℕ) (chosen : Option FoundRoots) → IsChosenBelow (candidate top) graph.nr chosen → chosen ≡ None → details < graph.nr
      → candidate top details ≡ None
  none_for_top top details None none is small = none details small
  none_for_top top details (Some best) chosen is small = absurd (not_both best (Some best) is refl)

  some_for_top : (top : ℕ) (best : FoundRoots) (chosen : Option FoundRoots) → IsChosenBelow (candidate top) graph.nr chosen → chosen ≡ Some best
      → (details : ℕ) × (candidate top details ≡ Some best)
  some_for_top top best None none is = absurd (not_both best None refl is)
  some_for_top top best (Some other) chosen is = (chosen.place, chosen.candidate ∙ is)

  worse_than : (best : FoundRoots) (top details : ℕ) → are_fitting graph image top details ≡ true → details < graph.nr → (chosen : Option FoundRoots) → IsChosenBelow (candidate top) graph.nr chosen
      → IfSome chosen (λ other. is_better other best ≡ false) → is_better (roots_at graph image top details) best ≡ false
  worse_than best top details fits small None none worse =
      absurd (not_both (roots_at graph image top details) (candidate top details) (none details small) (candidate_is top details fits))
  worse_than best top details fits small (Some other) chosen worse =
      not_better_over (roots_at graph image top details) other best (rw (candidate_is top details fits) at (chosen.others details small)) worse

  -- what is chosen of the number of a top is that of its pair
  fits_best : (best : FoundRoots) (top details : ℕ) → are_fitting graph image top details ≡ true → best ≡ roots_at graph image top details
      → (are_fitting graph image best.top best.details ≡ true) × (best ≡ roots_at graph image best.top best.details)
  unfolding roots_at
  fits_best best top details fits is =
      let same_top : top ≡ best.top = sym (ap (λ (r : FoundRoots). r.top) is) in
      let same_details : details ≡ best.details = sym (ap (λ (r : FoundRoots). r.details) is) in
      (rw (same_top, same_details) at fits, rw (same_top, same_details) at is)

  best_of : (chosen : Option FoundRoots) → IsChosenBelow (λ top. (for_top top).0) graph.nr chosen → IsFound graph image chosen
  best_of None none = λ top details. elim (cases_Bool (are_fitting graph image top details)) [
    | inl fits ↦
        let inside = both_inside top details fits in
        absurd (not_both (roots_at graph image top details) (candidate top details)
        (none_for_top top details (for_top top).0 (for_top top).1 (none top inside.0) inside.1) (candidate_is top details fits))
    | inr apart ↦ apart
  ]
  best_of (Some best) chosen =
      let top = chosen.place in
      let (details, is) = some_for_top top best (for_top top).0 (for_top top).1 chosen.candidate in
      let fits = candidate_fits top details best is in
      let own = fits_best best top details fits.0 fits.1 in
      record {
        fitting = own.0;
        numbers = own.1;
        best = λ t d e.
            let inside = both_inside t d e in
            worse_than best t d e inside.1 (for_top t).0 (for_top t).1 (chosen.others t inside.0);
      }

pub best_roots : (image : List (List ℕ)) (data_blocks : ℕ) → (roots : Option FoundRoots) × IsFound (lost_graph image data_blocks) image roots
best_roots image data_blocks =
    let graph = lost_graph image data_blocks in
    let all = of_all graph image in
    (all.0, best_of graph image all.0 all.1)
