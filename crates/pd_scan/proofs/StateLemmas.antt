-- The states of a pool without its superblock, put in their places one after the other.
use Rattle.std.proofs.Common.{◌≡◌, ℕ, zero, suc, ◌+◌, ◌-◌, ◌<◌, ◌≤◌, Bool, true, false, cond, not, List, [], ◌∷◌, length, map, filter, take, drop, insert, Option, Some, None, IfSome, refl, sym, ◌∙◌, ap, ap₂, subst, take-take, arith}
use Rattle.std.specs.List.{AllByRecursion, cons_option, filter_map, range_with_len}
use Rattle.std.proofs.lemmas.Bool.{both_ways, false_from_ne_true}
use Rattle.std.proofs.lemmas.List.{length-map, take-map}
use Rattle.pd_kinds.specs.Node.{Entry}
use Rattle.pd_kinds.specs.Graph.{Graph}
use Rattle.pd_kinds.specs.Meaning.{ThinDevice, thin_device}
use Rattle.pd_kinds.specs.Whole.{details_entries, top_entries}
use Rattle.pd_kinds.proofs.KindsListLemmas.{all_front, all_rest}
use Rattle.pd_kinds.proofs.ListLemmas.{all_append, all_from}
use Rattle.pd_laid.specs.FoundRoots.{FoundRoots, IsFound, are_fitting, devices_below, is_better, lost_graph, roots_at}
use Rattle.pd_answers.specs.FoundStates.{best_for, best_of, in_order, placed, states}
use Rattle.pd_graph.specs.Notes.{note_in, size_of}
use Rattle.pd_measures.proofs.SoundLemmas.{root_inside}
use Rattle.pd_scan.specs.declared.states.State.{State}
use Rattle.pd_scan.specs.declared.states.FoundStates.{FoundStates}
use Rattle.pd_scan.specs.declared.trees.LostTrees.{LostTrees}
use Rattle.pd_scan.specs.Pairs.{AreTreesOf, IsBestOf, may_fit, pair_of_trees, AreInside, AreFoundStates, AreStatesOf, HasDevices, IsFitting, IsStateOf, best_among, best_states, first_of, place_among, state_roots}
use Rattle.pd_scan.proofs.BestLemmas.{best_has, best_is, first_is_best, ordered_have, pairs_have}
use Rattle.pd_scan.proofs.FitLemmas.{fitting_parts}
use Rattle.pd_scan.proofs.PairLemmas.{fitting_inside, pair_details, pair_top}

-- a state is put into its place
pub placed_is : (s : State) (xs : List State) → map state_roots (insert xs (place_among s xs) s) ≡ placed (state_roots s) (map state_roots xs)
placed_is s [] = refl
placed_is s (x ∷ xs) = chosen (is_better (state_roots s) (state_roots x)) (placed_is s xs)
  where
    chosen : (b : Bool) → map state_roots (insert xs (place_among s xs) s) ≡ placed (state_roots s) (map state_roots xs)
        → map state_roots (insert (x ∷ xs) (cond (not b) (1 + place_among s xs) 0) s)
        ≡ cond b (state_roots s ∷ state_roots x ∷ map state_roots xs) (state_roots x ∷ placed (state_roots s) (map state_roots xs))
    chosen true rest = refl
    chosen false rest =
        let place : suc (place_among s xs) ≡ 1 + place_among s xs = omega arith in
        subst (λ (n : ℕ). map state_roots (insert (x ∷ xs) n s) ≡ state_roots x ∷ placed (state_roots s) (map state_roots xs)) place
        (ap (λ (rs : List FoundRoots). state_roots x ∷ rs) rest)

-- the first ones of some, with one more, are told by the first ones of the others
first_again : (n : ℕ) (x : FoundRoots) (xs : List FoundRoots) → take n (x ∷ take n xs) ≡ take n (x ∷ xs)
first_again zero x xs = refl
first_again (suc n) x xs = ap (λ (rs : List FoundRoots). x ∷ rs) (take-take n (suc n) xs (omega arith))

placed_first : (n : ℕ) (roots : FoundRoots) (xs : List FoundRoots) → take n (placed roots (take n xs)) ≡ take n (placed roots xs)
placed_first zero roots xs = refl
placed_first (suc n) roots [] = refl
placed_first (suc n) roots (x ∷ xs) = chosen (is_better roots x) (placed_first n roots xs)
  where
    chosen : (b : Bool) → take n (placed roots (take n xs)) ≡ take n (placed roots xs)
        → take (suc n) (cond b (roots ∷ x ∷ take n xs) (x ∷ placed roots (take n xs))) ≡ take (suc n) (cond b (roots ∷ x ∷ xs) (x ∷ placed roots xs))
    chosen true rest = ap (λ (rs : List FoundRoots). roots ∷ rs) (first_again n x xs)
    chosen false rest = ap (λ (rs : List FoundRoots). x ∷ rs) rest

-- it is one more
placed_number : (roots : FoundRoots) (xs : List FoundRoots) → length (placed roots xs) ≡ length xs + 1
placed_number roots [] = refl
placed_number roots (x ∷ xs) = chosen (is_better roots x) (placed_number roots xs)
  where
    chosen : (b : Bool) → length (placed roots xs) ≡ length xs + 1 → length (cond b (roots ∷ x ∷ xs) (x ∷ placed roots xs)) ≡ length (x ∷ xs) + 1
    chosen true rest = omega arith
    chosen false rest = omega arith

ordered_number : (xs : List FoundRoots) → length (in_order xs) ≡ length xs
ordered_number [] = refl
ordered_number (x ∷ xs) =
    let more = placed_number x (in_order xs) in
    let rest = ordered_number xs in
    omega arith

-- what is given of items is no more than they are
given_number : (h : ℕ → Option FoundRoots) (xs : List ℕ) → length (filter_map h xs) ≤ length xs
given_number h [] = omega arith
given_number h (x ∷ xs) = chosen (h x) (given_number h xs)
  where
    chosen : (o : Option FoundRoots) → length (filter_map h xs) ≤ length xs → length (cons_option o (filter_map h xs)) ≤ length (x ∷ xs)
    chosen None few = omega arith
    chosen (Some roots) few = omega arith

all_inserted : (P : State → Type 0) (xs : List State) (i : ℕ) (s : State) → P s → AllByRecursion P xs → AllByRecursion P (insert xs i s)
all_inserted P xs i s own all = all_append P (take i xs) (s ∷ drop i xs) (all_front P i xs all) (own, all_rest P i xs all)

module _ (trees : LostTrees) (top : ℕ) where
  abbrev best : ℕ → Option FoundRoots
  best = best_among (may_fit trees) (pair_of_trees trees) (size_of trees.details)

  its_best : (found : Option FoundRoots) → IsBestOf (may_fit trees) (pair_of_trees trees) (λ t d. t ≡ top) found
      → IfSome found (λ (r : FoundRoots). r.top ≡ top) → found ≡ best top
  its_best found is own =
      best_is (may_fit trees) (pair_of_trees trees) (pair_top trees) (pair_details trees) (size_of trees.details)
      (λ t d e. (fitting_inside trees t d e).1) top found is own

  -- no state is put in where the mapping tree has none
  pub no_state : (tops : List ℕ) (found : FoundStates) → IsBestOf (may_fit trees) (pair_of_trees trees) (λ t d. t ≡ top) None
      → AreStatesOf trees tops found → AreStatesOf trees (top ∷ tops) found
  no_state tops found none are = record {
    best = are.best ∙ ap (λ (o : Option FoundRoots). take 100 (in_order (cons_option o (filter_map best tops)))) (its_best None none tt);
    number = are.number ∙ ap (λ (o : Option FoundRoots). length (in_order (cons_option o (filter_map best tops)))) (its_best None none tt);
    each = are.each;
  }

  -- and else that of its best roots
  pub one_state : (tops : List ℕ) (found new : FoundStates) (s : State)
      → IsBestOf (may_fit trees) (pair_of_trees trees) (λ t d. t ≡ top) (Some (state_roots s))
      → s.roots.top ≡ top → s.devices ≡ (note_in trees.tops top).below
      → new.best.items ≡ take 100 (insert found.best.items (place_among s found.best.items) s) → new.number ≡ found.number + 1
      → AreStatesOf trees tops found → AreStatesOf trees (top ∷ tops) new
  one_state tops found new s is own devices put counted are =
      let others = found.best.items in
      let one : Some (state_roots s) ≡ best top = its_best (Some (state_roots s)) is own in
      record {
        best =
            ap (map state_roots) put
            ∙ (sym (take-map state_roots 100 (insert others (place_among s others) s))
            ∙ (ap (take 100) (placed_is s others ∙ ap (placed (state_roots s)) are.best)
            ∙ (placed_first 100 (state_roots s) (in_order (filter_map best tops))
            ∙ ap (λ (o : Option FoundRoots). take 100 (in_order (cons_option o (filter_map best tops)))) one)));
        number =
            counted
            ∙ (ap (λ (n : ℕ). n + 1) are.number
            ∙ (sym (placed_number (state_roots s) (in_order (filter_map best tops)))
            ∙ ap (λ (o : Option FoundRoots). length (in_order (cons_option o (filter_map best tops)))) one));
        each = subst (AllByRecursion (IsStateOf trees)) (sym put)
            (all_front (IsStateOf trees) 100 (insert others (place_among s others) s)
            (all_inserted (IsStateOf trees) others (place_among s others) s
            (record { fitting = is.fitting; devices = devices ∙ ap (λ (t : ℕ). (note_in trees.tops t).below) (sym own) }) are.each));
      }

  -- there are no more than mapping trees
  pub few_states : (tops : List ℕ) (found : FoundStates) → AreStatesOf trees tops found → found.number ≤ length tops
  few_states tops found are =
      let number = are.number in
      let ordered = ordered_number (filter_map best tops) in
      let few = given_number best tops in
      omega arith

-- the tops from the last one down to one more
pub one_more : (nr passed : ℕ) → passed < nr → range_with_len (nr - (passed + 1)) (passed + 1) ≡ (nr - (passed + 1)) ∷ range_with_len (nr - passed) passed
one_more nr passed less =
    let next : nr - (passed + 1) + 1 ≡ nr - passed = omega arith in
    let more : passed + 1 ≡ suc passed = omega arith in
    ap (range_with_len (nr - (passed + 1))) more ∙ ap (λ (first : ℕ). (nr - (passed + 1)) ∷ range_with_len first passed) next

-- lists of what trees give that are told alike
module _ (fits other : ℕ → ℕ → Bool) (pair told : ℕ → ℕ → FoundRoots) (same : (t d : ℕ) → fits t d ≡ other t d)
    (alike : (t d : ℕ) → other t d ≡ true → told t d ≡ pair t d) where
  pairs_alike : (top : ℕ) (ds : List ℕ) → map (pair top) (filter (fits top) ds) ≡ map (told top) (filter (other top) ds)
  pairs_alike top [] = refl
  pairs_alike top (d ∷ ds) =
      ap (λ (b : Bool). map (pair top) (cond b (d ∷ filter (fits top) ds) (filter (fits top) ds))) (same top d) ∙ chosen (other top d) refl (pairs_alike top ds)
    where
      chosen : (b : Bool) → other top d ≡ b → map (pair top) (filter (fits top) ds) ≡ map (told top) (filter (other top) ds)
          → map (pair top) (cond b (d ∷ filter (fits top) ds) (filter (fits top) ds)) ≡ map (told top) (cond b (d ∷ filter (other top) ds) (filter (other top) ds))
      chosen true e rest = ap₂ (λ (r : FoundRoots) (rs : List FoundRoots). r ∷ rs) (sym (alike top d e)) rest
      chosen false e rest = rest

  bests_alike : (nr : ℕ) (tops : List ℕ) → filter_map (best_among fits pair nr) tops ≡ filter_map (best_among other told nr) tops
  bests_alike nr [] = refl
  bests_alike nr (top ∷ tops) =
      ap₂ (λ (o : Option FoundRoots) (rs : List FoundRoots). cons_option o rs) (ap best_of (pairs_alike top (range_with_len 0 nr))) (bests_alike nr tops)

  pub states_alike : (nr : ℕ) (tops : List ℕ) → best_states fits pair nr tops ≡ best_states other told nr tops
  states_alike nr tops = ap in_order (bests_alike nr tops)

-- the states of trees are those of the image, where they fit by what is measured of them just where they do
module _ (image : List (List ℕ)) (data_blocks : ℕ) (old new : LostTrees) (are : AreTreesOf image data_blocks old)
    (tops : new.tops ≡ old.tops) (places : size_of new.details ≡ size_of old.tops)
    (fits : (t d : ℕ) → may_fit new t d ≡ are_fitting (lost_graph image data_blocks) image t d)
    (roots : (t d : ℕ) → are_fitting (lost_graph image data_blocks) image t d ≡ true → roots_at (lost_graph image data_blocks) image t d ≡ pair_of_trees new t d) where
  abbrev graph : Graph
  graph = lost_graph image data_blocks

  devices_of : (s : State) → IsStateOf new s → HasDevices graph image s
  unfolding devices_below
  devices_of s is =
      let fit = sym (fits s.roots.top s.roots.details) ∙ is.fitting in
      let sound = (fitting_parts graph image s.roots.top s.roots.details fit).0 in
      is.devices ∙ (ap (λ notes. (note_in notes s.roots.top).below) tops
      ∙ (are.told.number s.roots.top (root_inside graph image 2 s.roots.top sound) sound
      ∙ sym (length-map {A = Entry} {B = ThinDevice} (top_entries graph image s.roots.top) (thin_device graph image (details_entries graph image s.roots.details)))))

  same_states : best_states (may_fit new) (pair_of_trees new) (size_of new.details) (range_with_len 0 (size_of new.tops)) ≡ states graph image
  unfolding states best_for
  same_states =
      let number : size_of new.tops ≡ graph.nr = ap size_of tops ∙ sym are.number in
      let others : size_of new.details ≡ graph.nr = places ∙ sym are.number in
      ap₂ (λ (n m : ℕ). best_states (may_fit new) (pair_of_trees new) n (range_with_len 0 m)) others number
      ∙ states_alike (may_fit new) (are_fitting graph image) (pair_of_trees new) (roots_at graph image) fits roots graph.nr (range_with_len 0 graph.nr)

  pub states_found : (found : FoundStates) → AreStatesOf new (range_with_len 0 (size_of new.tops)) found → AreFoundStates graph image found
  states_found found is = record {
    best = is.best ∙ ap (take 100) same_states;
    number = is.number ∙ ap (λ (rs : List FoundRoots). length rs) same_states;
    devices = all_from (IsStateOf new) (HasDevices graph image) devices_of found.best.items is.each;
  }

-- both roots of each are inside
pub states_inside : (trees : LostTrees) (n : ℕ) → size_of trees.tops ≡ n → size_of trees.details ≡ n → (found : List State)
    → AllByRecursion (IsStateOf trees) found → AllByRecursion (λ (s : State). AreInside n s.roots) found
states_inside trees n tops details found all =
    all_from (IsStateOf trees) (λ (s : State). AreInside n s.roots) (λ s is.
    let inside = fitting_inside trees s.roots.top s.roots.details is.fitting in
    let first = inside.0 in
    let second = inside.1 in
    record { top = omega arith; details = omega arith }) found all

-- the states of an image are pairs of trees that fit each other, and the first one is the best
module _ (image : List (List ℕ)) (data_blocks : ℕ) where
  abbrev lost : Graph
  lost = lost_graph image data_blocks

  top_of_roots : (t d : ℕ) → (roots_at lost image t d).top ≡ t
  unfolding roots_at
  top_of_roots t d = refl

  details_of_roots : (t d : ℕ) → (roots_at lost image t d).details ≡ d
  unfolding roots_at
  details_of_roots t d = refl

  is_fitting : (t d : ℕ) → are_fitting lost image t d ≡ true → IsFitting lost image (roots_at lost image t d)
  is_fitting t d e = (
    ap₂ (are_fitting lost image) (top_of_roots t d) (details_of_roots t d) ∙ e,
    sym (ap₂ (roots_at lost image) (top_of_roots t d) (details_of_roots t d)),
  )

  pub all_fit : AllByRecursion (IsFitting lost image) (states lost image)
  unfolding states best_for
  all_fit =
      let best = best_among (are_fitting lost image) (roots_at lost image) lost.nr in
      ordered_have (IsFitting lost image) best (λ t.
      best_has (IsFitting lost image) (map (roots_at lost image t) (filter (are_fitting lost image t) (range_with_len 0 lost.nr)))
      (pairs_have (IsFitting lost image) (are_fitting lost image t) (roots_at lost image t) (is_fitting t) (range_with_len 0 lost.nr))) (range_with_len 0 lost.nr)

  best_is_found : (found : Option FoundRoots) → IsBestOf (are_fitting lost image) (roots_at lost image) (λ t d. (0 ≤ t) × (t < 0 + lost.nr)) found
      → IsFound lost image found
  best_is_found None none = λ t d.
      false_from_ne_true (are_fitting lost image t d)
      (λ e. let less = root_inside lost image 2 t (fitting_parts lost image t d e).0 in both_ways (are_fitting lost image t d) (none t d (omega arith, omega arith)) e)
  best_is_found (Some roots) is = record {
    fitting = is.fitting;
    numbers = is.numbers;
    best = λ t d e. let less = root_inside lost image 2 t (fitting_parts lost image t d e).0 in is.none_better t d (omega arith, omega arith) e;
  }

  pub first_is_found : IsFound lost image (first_of (states lost image))
  unfolding states best_for
  first_is_found =
      best_is_found (first_of (in_order (filter_map (best_among (are_fitting lost image) (roots_at lost image) lost.nr) (range_with_len 0 lost.nr))))
      (first_is_best (are_fitting lost image) (roots_at lost image) top_of_roots details_of_roots lost.nr
      (λ t d e. root_inside lost image 4 d (fitting_parts lost image t d e).1) 0 lost.nr)

  -- of no blocks there is none
  pub no_states : lost.nr ≡ 0 → states lost image ≡ []
  unfolding states
  no_states none = ap (λ (n : ℕ). in_order (filter_map (best_for lost image) (range_with_len 0 n))) none
