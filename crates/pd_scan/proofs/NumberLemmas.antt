-- Lists of devices that are numbered: two trees fit each other just where their numbers are one.
use Rattle.std.proofs.Common.{◌≡◌, inl, inr, ℕ, ◌+◌, ◌<◌, Bool, true, false, ◌&&◌, cond, nat_eq, List, [], ◌∷◌, Option, Some, None, MatchOption, Result, Ok, Err, OnOk, IfSome, max, refl, sym, ◌∙◌, ap, ap₂, subst, arith}
use Rattle.std.specs.declared.cmp.Ordering.{Ordering}
use Rattle.std.specs.declared.cmp.Ordering.TheVariants.{Less, Equal, Greater}
use Rattle.std.specs.BTreeMap.{get, get_by}
use Rattle.std.specs.Cmp.Lexicographic.{slice_cmp}
use Rattle.std.specs.Option.{unwrap_or}
use Rattle.std.specs.Ordering.{is_eq, nat_cmp, ordering_then}
use Rattle.std.specs.Vec.{vec_items}
use Rattle.std.proofs.lemmas.Bool.{cases_Bool, cases_eq, and_from, and_parts, both_ways, eqb-true, eq-eqb, ne_eqb, false_from_ne_true}
use Rattle.std.proofs.lemmas.Option.{none-some}
use Rattle.pd_kinds.specs.Graph.{Graph}
use Rattle.pd_laid.specs.FoundRoots.{FoundRoots, are_fitting, is_better, is_sound_tree, lost_graph}
use Rattle.pd_graph.specs.declared.notes.Notes.{Notes}
use Rattle.pd_graph.specs.Notes.{size_of}
use Rattle.pd_measures.specs.declared.measures.Measured.{Measured}
use Rattle.pd_measures.specs.declared.measures.Measures.{Measures}
use Rattle.pd_measures.specs.Counts.{DeviceCount, counts_of_details, counts_of_top, pairs_of}
use Rattle.pd_measures.specs.Measured.{measure_at}
use Rattle.pd_measures.proofs.SoundLemmas.{root_inside}
use Rattle.pd_measures.proofs.ListLemmas.{the_count}
use Rattle.pd_scan.specs.declared.trees.LostTrees.{LostTrees}
use Rattle.pd_scan.specs.Numbers.{AreDetailsNumbered, AreNumbered, AreTold, AreTopsChanged, AreTopsNumbered, DeviceCounts, HaveNumbers, IsNumber, IsTopNumber, Numbers, details_list, list_cmp, top_list, with_number}
use Rattle.pd_scan.specs.Pairs.{AreTreesOf, IsBestOf, may_fit, pair_of_trees, AreInside, found_of}
use Rattle.pd_scan.specs.Partners.{has_sum, is_partner, sum_cmp, sum_of, time_of, is_noted_good}
use Rattle.pd_scan.specs.Lost.{AreRoots}
use Rattle.pd_scan.proofs.FitLemmas.{fitting_parts, good_root, may_fit_by, root_good}
use Rattle.pd_scan.specs.declared.roots.Roots.{Roots}
use Rattle.pd_scan.proofs.PairLemmas.{fitting_inside}
use Rattle.pd_scan.proofs.PartnerLemmas.{equal_last}

-- lists that their order holds for equal are one
both_equal : (o later : Ordering) → is_eq (ordering_then o later) ≡ true → (is_eq o ≡ true) × (is_eq later ≡ true)
both_equal Less later e = absurd (both_ways true (sym e) refl)
both_equal Equal later e = (refl, e)
both_equal Greater later e = absurd (both_ways true (sym e) refl)

equal_both : (o later : Ordering) → is_eq o ≡ true → is_eq later ≡ true → is_eq (ordering_then o later) ≡ true
equal_both Less later first second = first
equal_both Equal later first second = second
equal_both Greater later first second = first

one_number : (x y : ℕ) → is_eq (nat_cmp x y) ≡ true → x ≡ y
one_number x y e = eqb-true x y (sym (equal_last x y) ∙ e)

own_number : (x : ℕ) → is_eq (nat_cmp x x) ≡ true
own_number x = equal_last x x ∙ eq-eqb x x refl

one_list : (xs ys : List (ℕ × ℕ)) → is_eq (slice_cmp sum_cmp xs ys) ≡ true → xs ≡ ys
one_list [] [] e = refl
one_list [] (y ∷ ys) e = absurd (both_ways true (sym e) refl)
one_list (x ∷ xs) [] e = absurd (both_ways true (sym e) refl)
one_list (x ∷ xs) (y ∷ ys) e =
    let parts = both_equal (sum_cmp x y) (slice_cmp sum_cmp xs ys) e in
    let first = both_equal (nat_cmp x.0 y.0) (nat_cmp x.1 y.1) parts.0 in
    ap₂ (λ (z : ℕ × ℕ) (zs : List (ℕ × ℕ)). z ∷ zs)
    (ap₂ (λ (a b : ℕ). (a, b)) (one_number x.0 y.0 first.0) (one_number x.1 y.1 first.1)) (one_list xs ys parts.1)

own_list : (xs : List (ℕ × ℕ)) → is_eq (slice_cmp sum_cmp xs xs) ≡ true
own_list [] = refl
own_list (x ∷ xs) =
    equal_both (sum_cmp x x) (slice_cmp sum_cmp xs xs) (equal_both (nat_cmp x.0 x.0) (nat_cmp x.1 x.1) (own_number x.0) (own_number x.1)) (own_list xs)

-- what a table has at a list
same_key : (numbers : Numbers) (a b : DeviceCounts) → vec_items a ≡ vec_items b → get list_cmp numbers a ≡ get list_cmp numbers b
same_key numbers a b same = ap (λ (items : List (ℕ × ℕ)). get_by (λ (key : DeviceCounts). slice_cmp sum_cmp items (vec_items key)) numbers) same

pairs_one : (xs ys : List DeviceCount) → pairs_of xs ≡ pairs_of ys → xs ≡ ys
pairs_one [] [] same = refl
pairs_one [] (y ∷ ys) same = absurd (cc)
pairs_one (x ∷ xs) [] same = absurd (cc)
pairs_one (x ∷ xs) (y ∷ ys) same =
    let first : ◌≡◌ {A = ℕ × ℕ} (x.id, x.mapped) (y.id, y.mapped) = cc in
    let id : x.id ≡ y.id = ap (λ (p : ℕ × ℕ). p.0) first in
    let mapped : x.mapped ≡ y.mapped = ap (λ (p : ℕ × ℕ). p.1) first in
    let rest : pairs_of xs ≡ pairs_of ys = cc in
    ap₂ (λ (c : DeviceCount) (cs : List DeviceCount). c ∷ cs)
    (ap₂ the_count id mapped) (pairs_one xs ys rest)

module _ (graph : Graph) (image : List (List ℕ)) where
  -- one more details tree that isn't sound
  pub details_passed : (measures : Measures) (b : ℕ) (numbers : Numbers) → is_sound_tree graph image 4 b ≡ false
      → AreNumbered graph image measures b numbers → AreNumbered graph image measures (b + 1) numbers
  details_passed measures b numbers unsound are = record {
    same = λ c less sound. elim (cases_eq c b) [
      | inl here ↦ absurd (both_ways (is_sound_tree graph image 4 c) (ap (is_sound_tree graph image 4) here ∙ unsound) sound)
      | inr ne ↦ let is = are.same c (omega arith) sound in let small = is.0 in (omega arith, is.1)
    ];
    known = λ c less sound. elim (cases_eq c b) [
      | inl here ↦ absurd (both_ways (is_sound_tree graph image 4 c) (ap (is_sound_tree graph image 4) here ∙ unsound) sound)
      | inr ne ↦ are.known c (omega arith) sound
    ];
    told = λ key number e. let is = are.told key number e in let small = is.0 in (omega arith, is.1);
  }

  -- and one that is
  module _ (old new : Measures) (before after : Numbers) (list : DeviceCounts) (b number : ℕ) (is_list : vec_items list ≡ details_list graph image b)
      (changed : (c : ℕ) → measure_at new c ≡ cond (nat_eq c b) (with_number (measure_at old b) number) (measure_at old c))
      (are : AreNumbered graph image old b before) where
    here : (c : ℕ) → c ≡ b → (measure_at new c).print ≡ number
    here c same = ap (λ (m : Measured). m.print) (changed c ∙ ap (λ (is : Bool). cond is (with_number (measure_at old b) number) (measure_at old c)) (eq-eqb c b same))

    earlier : (c : ℕ) → (c ≡ b → ⊥) → (measure_at new c).print ≡ (measure_at old c).print
    earlier c ne = ap (λ (m : Measured). m.print) (changed c ∙ ap (λ (is : Bool). cond is (with_number (measure_at old b) number) (measure_at old c)) (ne_eqb c b ne))

    same_earlier : (c : ℕ) → c < b + 1 → (c ≡ b → ⊥) → is_sound_tree graph image 4 c ≡ true
        → ((measure_at new c).print < b + 1) × (details_list graph image (measure_at new c).print ≡ details_list graph image c)
    same_earlier c less ne sound =
        let is = are.same c (omega arith) sound in
        let small = is.0 in
        let print = earlier c ne in
        (omega arith, ap (details_list graph image) print ∙ is.1)

    at_list : (c : ℕ) → c ≡ b → (key : DeviceCounts) → vec_items key ≡ details_list graph image c → vec_items list ≡ vec_items key
    at_list c same key e = is_list ∙ (ap (details_list graph image) (sym same) ∙ sym e)

    numbered_by : (found : Option ℕ) → get list_cmp before list ≡ found
        → MatchOption found ((number ≡ b) × ((key : DeviceCounts) → get list_cmp after key ≡ cond (is_eq (list_cmp list key)) (Some b) (get list_cmp before key)))
        (λ known. (number ≡ known) × (after ≡ before))
        → AreNumbered graph image new (b + 1) after
    numbered_by (Some n) e is =
        let told = are.told list n e in
        let small = told.0 in
        let is_n = is.0 in
        record {
          same = λ c less sound. elim (cases_eq c b) [
            | inl same ↦
                let print = here c same in
                (omega arith, ap (details_list graph image) (print ∙ is_n) ∙ (told.1 ∙ (is_list ∙ ap (details_list graph image) (sym same))))
            | inr ne ↦ same_earlier c less ne sound
          ];
          known = λ c less sound key at. elim (cases_eq c b) [
            | inl same ↦
                ap (λ (t : Numbers). get list_cmp t key) is.1 ∙ (sym (same_key before list key (at_list c same key at)) ∙ (e ∙ ap (λ (x : ℕ). Some x) (sym (here c same ∙ is_n))))
            | inr ne ↦
                ap (λ (t : Numbers). get list_cmp t key) is.1 ∙ (are.known c (omega arith) sound key at ∙ ap (λ (x : ℕ). Some x) (sym (earlier c ne)))
          ];
          told = λ key m at. let known = are.told key m (ap (λ (t : Numbers). get list_cmp t key) (sym is.1) ∙ at) in let less = known.0 in (omega arith, known.1);
        }
    numbered_by None e is =
        let own = is.0 in
        record {
          same = λ c less sound. elim (cases_eq c b) [
            | inl same ↦ let print = here c same in (omega arith, ap (details_list graph image) (print ∙ (own ∙ sym same)))
            | inr ne ↦ same_earlier c less ne sound
          ];
          known = λ c less sound key at. elim (cases_eq c b) [
            | inl same ↦
                let one = subst (λ (items : List (ℕ × ℕ)). is_eq (slice_cmp sum_cmp (vec_items list) items) ≡ true) (at_list c same key at) (own_list (vec_items list)) in
                is.1 key ∙ (ap (λ (eq : Bool). cond eq (Some b) (get list_cmp before key)) one ∙ ap (λ (x : ℕ). Some x) (sym (here c same ∙ own)))
            | inr ne ↦
                let known = are.known c (omega arith) sound key at in
                let other = false_from_ne_true (is_eq (list_cmp list key))
                (λ one. none-some (measure_at old c).print (sym e ∙ (same_key before list key (one_list (vec_items list) (vec_items key) one) ∙ known))) in
                is.1 key ∙ (ap (λ (eq : Bool). cond eq (Some b) (get list_cmp before key)) other ∙ (known ∙ ap (λ (x : ℕ). Some x) (sym (earlier c ne))))
          ];
          told = λ key m at. elim (cases_Bool (is_eq (list_cmp list key))) [
            | inl one ↦
                let m_is : b ≡ m = ap (λ (o : Option ℕ). unwrap_or o 0) (sym (ap (λ (eq : Bool). cond eq (Some b) (get list_cmp before key)) one) ∙ (sym (is.1 key) ∙ at)) in
                (omega arith, ap (details_list graph image) (sym m_is) ∙ (sym is_list ∙ one_list (vec_items list) (vec_items key) one))
            | inr other ↦
                let known = are.told key m (sym (ap (λ (eq : Bool). cond eq (Some b) (get list_cmp before key)) other) ∙ (sym (is.1 key) ∙ at)) in
                let less = known.0 in
                (omega arith, known.1)
          ];
        }

    pub details_numbered : IsNumber before after list b number → AreNumbered graph image new (b + 1) after
    details_numbered is = numbered_by (get list_cmp before list) refl is

  -- a mapping tree more
  pub top_passed : (numbers : Numbers) (none top : ℕ) (measures : Measures) → is_sound_tree graph image 2 top ≡ false
      → AreTopsNumbered graph image numbers none top measures → AreTopsNumbered graph image numbers none (top + 1) measures
  top_passed numbers none top measures unsound are = record {
    each = λ t less sound. elim (cases_eq t top) [
      | inl here ↦ absurd (both_ways (is_sound_tree graph image 2 t) (ap (is_sound_tree graph image 2) here ∙ unsound) sound)
      | inr ne ↦ are.each t (omega arith) sound
    ];
  }

  pub top_numbered : (numbers : Numbers) (none top number : ℕ) (old new : Measures) (list : DeviceCounts) → vec_items list ≡ top_list graph image top
      → number ≡ unwrap_or (get list_cmp numbers list) none
      → ((t : ℕ) → measure_at new t ≡ cond (nat_eq t top) (with_number (measure_at old top) number) (measure_at old t))
      → AreTopsNumbered graph image numbers none top old → AreTopsNumbered graph image numbers none (top + 1) new
  top_numbered numbers none top number old new list is_list is changed are = record {
    each = λ t less sound. elim (cases_eq t top) [
      | inl here ↦
          let print : (measure_at new t).print ≡ number = ap (λ (m : Measured). m.print) (changed t ∙ ap (λ (eq : Bool). cond eq (with_number (measure_at old top) number) (measure_at old t)) (eq-eqb t top here)) in
          record { key = list; is_list = is_list ∙ ap (top_list graph image) (sym here); is = print ∙ is }
      | inr ne ↦
          let print : (measure_at new t).print ≡ (measure_at old t).print = ap (λ (m : Measured). m.print) (changed t ∙ ap (λ (eq : Bool). cond eq (with_number (measure_at old top) number) (measure_at old t)) (ne_eqb t top ne)) in
          let one = are.each t (omega arith) sound in
          record { key = one.key; is_list = one.is_list; is = print ∙ one.is }
    ];
  }

-- what isn't noted as good isn't sound
pub unsound : (graph : Graph) (image : List (List ℕ)) (role : ℕ) (notes : Notes) → AreRoots graph image role notes → graph.nr ≡ size_of notes
    → (b : ℕ) → is_noted_good notes b ≡ false → is_sound_tree graph image role b ≡ false
unsound graph image role notes roots number b bad =
    false_from_ne_true (is_sound_tree graph image role b) (λ sound. both_ways (is_noted_good notes b) bad (good_root graph image role notes roots number b sound))

-- what is told of trees stays so where only measures change
module _ (graph : Graph) (image : List (List ℕ)) (old new : LostTrees) (told : AreTold graph image old) where
  pub told_by_details : AreDetailsNumbered old new → AreTold graph image new
  told_by_details is =
      subst (AreTold graph image) (sym is.same)
      (record { number = told.number; places = told.places; tops = told.tops; details = told.details; below = told.below })

  pub told_by_tops : AreTopsChanged old new → AreTold graph image new
  told_by_tops is =
      subst (AreTold graph image) (sym is.same)
      (record { number = told.number; places = told.places; tops = told.tops; details = told.details; below = told.below })

-- and measures that change twice
numbers_twice : (old middle new : Measures) → HaveNumbers old middle → HaveNumbers middle new → HaveNumbers old new
numbers_twice old middle new first second = record {
  places = second.places ∙ first.places;
  measures = λ b. second.measures b ∙ ap (λ (m : Measured). with_number m (measure_at new b).print) (first.measures b);
}

pub details_twice : (old middle new : LostTrees) → AreDetailsNumbered old middle → AreDetailsNumbered middle new → AreDetailsNumbered old new
details_twice old middle new first second = record {
  same = second.same ∙ ap (λ (t : LostTrees). record t { details_measures = new.details_measures }) first.same;
  measures = numbers_twice old.details_measures middle.details_measures new.details_measures first.measures second.measures;
}

pub tops_twice : (old middle new : LostTrees) → AreTopsChanged old middle → AreTopsChanged middle new → AreTopsChanged old new
tops_twice old middle new first second = record {
  same = second.same ∙ ap (λ (t : LostTrees). record t { top_measures = new.top_measures }) first.same;
  measures = numbers_twice old.top_measures middle.top_measures new.top_measures first.measures second.measures;
}

-- trees whose numbers are told
pub told_of : (image : List (List ℕ)) (data_blocks : ℕ) (trees : LostTrees) → AreTreesOf image data_blocks trees → AreTold (lost_graph image data_blocks) image trees
told_of image data_blocks trees are =
    record { number = are.number; places = are.places; tops = are.told.tops; details = are.told.details; below = are.told.told }

-- measures with numbers tell the same roots
roots_by : ℕ → ℕ → Measured → Measured → FoundRoots
roots_by top details mappings devices = record {
  top = top;
  details = details;
  mappings = mappings.total;
  time = max (time_of mappings) (time_of devices);
  transaction = devices.transaction;
  times = mappings.times;
}

module _ (old middle new : LostTrees) (first : AreDetailsNumbered old middle) (second : AreTopsChanged middle new) where
  both_changed : new ≡ record old { details_measures = middle.details_measures; top_measures = new.top_measures }
  both_changed = second.same ∙ ap (λ (t : LostTrees). record t { top_measures = new.top_measures }) first.same

  pub pairs_same : (top details : ℕ) → pair_of_trees new top details ≡ pair_of_trees old top details
  unfolding pair_of_trees roots_by
  pairs_same top details =
      ap (λ (t : LostTrees). pair_of_trees t top details) both_changed
      ∙ ap₂ (λ (m d : Measured). roots_by top details m d)
      (second.measures.measures top ∙ ap (λ (t : LostTrees). with_number (measure_at t.top_measures top) (measure_at new.top_measures top).print) first.same)
      (first.measures.measures details)

  module _ (image : List (List ℕ)) (data_blocks : ℕ) (numbers : Numbers) (are : AreTreesOf image data_blocks old)
      (details_are : AreNumbered (lost_graph image data_blocks) image middle.details_measures (size_of old.tops) numbers)
      (tops_are : AreTopsNumbered (lost_graph image data_blocks) image numbers (size_of old.tops) (size_of old.tops) new.top_measures)
      (fitting : (top details : ℕ) → is_sound_tree (lost_graph image data_blocks) image 2 top ≡ true → is_sound_tree (lost_graph image data_blocks) image 4 details ≡ true
      → (are_fitting (lost_graph image data_blocks) image top details ≡ true → counts_of_top (lost_graph image data_blocks) image top ≡ counts_of_details (lost_graph image data_blocks) image details)
      × (counts_of_top (lost_graph image data_blocks) image top ≡ counts_of_details (lost_graph image data_blocks) image details → are_fitting (lost_graph image data_blocks) image top details ≡ true)) where
    abbrev graph : Graph
    graph = lost_graph image data_blocks

    -- what may fit, by the parts of the new trees
    abbrev may : ℕ → ℕ → Bool
    may top details = is_noted_good old.tops top && (is_noted_good old.details details && has_sum (sum_of (measure_at new.top_measures top)) (measure_at middle.details_measures details))

    may_is : (top details : ℕ) → may_fit new top details ≡ may top details
    unfolding may_fit is_partner
    may_is top details = ap (λ (t : LostTrees). may_fit t top details) both_changed

    totals : (top : ℕ) → (measure_at new.top_measures top).total ≡ (measure_at old.top_measures top).total
    totals top =
        ap (λ (m : Measured). m.total) (second.measures.measures top) ∙ ap (λ (t : LostTrees). (measure_at t.top_measures top).total) first.same

    small : (role b : ℕ) → is_sound_tree graph image role b ≡ true → b < size_of old.tops
    small role b sound = let less = root_inside graph image role b sound in let number = are.number in omega arith

    fits_may : (top details : ℕ) → are_fitting graph image top details ≡ true → may top details ≡ true
    unfolding may_fit is_partner
    fits_may top details e =
        let sound = fitting_parts graph image top details e in
        let one = (fitting top details sound.0 sound.1).0 e in
        let was = may_fit_by image data_blocks old are top details sound.0 sound.1 one in
        let parts = and_parts (is_noted_good old.tops top) _ was in
        let later = and_parts (is_noted_good old.details details) _ parts.1 in
        let sums = and_parts (nat_eq (measure_at old.details_measures details).total (measure_at old.top_measures top).total) _ later.1 in
        let number = tops_are.each top (small 2 top sound.0) sound.0 in
        let known = details_are.known details (small 4 details sound.1) sound.1 number.key (number.is_list ∙ ap pairs_of one) in
        let print : (measure_at new.top_measures top).print ≡ (measure_at middle.details_measures details).print = number.is ∙ ap (λ (o : Option ℕ). unwrap_or o (size_of old.tops)) known in
        let total = ap (λ (m : Measured). m.total) (first.measures.measures details) ∙ (eqb-true (measure_at old.details_measures details).total (measure_at old.top_measures top).total sums.0 ∙ sym (totals top)) in
        and_from (is_noted_good old.tops top) _ parts.0
        (and_from (is_noted_good old.details details) _ later.0
        (and_from (nat_eq (measure_at middle.details_measures details).total (measure_at new.top_measures top).total) _ (eq-eqb _ _ total) (eq-eqb _ _ (sym print))))

    -- a number of a mapping tree that a details tree has
    by_number : (top details : ℕ) → is_sound_tree graph image 2 top ≡ true → is_sound_tree graph image 4 details ≡ true
        → (number : IsTopNumber graph image numbers (size_of old.tops) top (measure_at new.top_measures top).print)
        → (measure_at middle.details_measures details).print ≡ (measure_at new.top_measures top).print
        → (found : Option ℕ) → get list_cmp numbers number.key ≡ found → top_list graph image top ≡ details_list graph image details
    by_number top details first_sound sound number same None e =
        let is = number.is ∙ ap (λ (o : Option ℕ). unwrap_or o (size_of old.tops)) e in
        let less = (details_are.same details (small 4 details sound) sound).0 in
        absurd (omega arith)
    by_number top details first_sound sound number same (Some n) e =
        let is = number.is ∙ ap (λ (o : Option ℕ). unwrap_or o (size_of old.tops)) e in
        sym number.is_list ∙ (sym (details_are.told number.key n e).1
        ∙ (ap (details_list graph image) (sym (same ∙ is)) ∙ (details_are.same details (small 4 details sound) sound).1))

    may_fits : (top details : ℕ) → may top details ≡ true → are_fitting graph image top details ≡ true
    may_fits top details e =
        let parts = and_parts (is_noted_good old.tops top) _ e in
        let later = and_parts (is_noted_good old.details details) _ parts.1 in
        let sums = and_parts (nat_eq (measure_at middle.details_measures details).total (measure_at new.top_measures top).total) _ later.1 in
        let sound = root_good graph image 2 old.tops are.told.tops are.number top parts.0 in
        let other = root_good graph image 4 old.details are.told.details (are.number ∙ sym are.places) details later.0 in
        let number = tops_are.each top (small 2 top sound) sound in
        let print = eqb-true (measure_at middle.details_measures details).print (measure_at new.top_measures top).print sums.1 in
        (fitting top details sound other).1
        (pairs_one (counts_of_top graph image top) (counts_of_details graph image details)
        (by_number top details sound other number print (get list_cmp numbers number.key) refl))

    pub numbers_fit : (top details : ℕ) → may_fit new top details ≡ are_fitting graph image top details
    numbers_fit top details = may_is top details ∙ by_both (may top details) (are_fitting graph image top details) (may_fits top details) (fits_may top details)
      where
        by_both : (a b : Bool) → (a ≡ true → b ≡ true) → (b ≡ true → a ≡ true) → a ≡ b
        by_both true b to from = sym (to refl)
        by_both false b to from = sym (false_from_ne_true b (λ e. both_ways true (sym (from e)) refl))

-- the best of pairs that fit alike, and are told alike
pub best_alike : (fits other : ℕ → ℕ → Bool) (pair told : ℕ → ℕ → FoundRoots) (A : ℕ → ℕ → Type 0) → ((t d : ℕ) → fits t d ≡ other t d) → ((t d : ℕ) → pair t d ≡ told t d)
    → (best : Option FoundRoots) → IsBestOf fits pair A best → IsBestOf other told A best
best_alike fits other pair told A same alike None none = λ t d among. sym (same t d) ∙ none t d among
best_alike fits other pair told A same alike (Some roots) best = record {
  fitting = sym (same roots.top roots.details) ∙ best.fitting;
  numbers = best.numbers ∙ alike roots.top roots.details;
  none_better = λ t d among fit. subst (λ (r : FoundRoots). is_better r roots ≡ false) (alike t d) (best.none_better t d among (same t d ∙ fit));
}

-- two facts on an answer
pub on_both : {T E : Type 0} → (r : Result T E) (P Q R : Type 0) → (P → Q → R) → OnOk r P → OnOk r Q → OnOk r R
on_both (Ok t) P Q R f p q = f p q
on_both (Err e) P Q R f p q = tt

-- the best of trees that may fit are among them
pub best_inside : (trees : LostTrees) (n : ℕ) (A : ℕ → ℕ → Type 0) → size_of trees.tops ≡ n → size_of trees.details ≡ n → (found : Option Roots)
    → IsBestOf (may_fit trees) (pair_of_trees trees) A (found_of found) → IfSome found (AreInside n)
best_inside trees n A tops details None best = tt
best_inside trees n A tops details (Some roots) best =
    let inside = fitting_inside trees roots.top roots.details best.fitting in
    let first = inside.0 in
    let second = inside.1 in
    record { top = omega arith; details = omega arith }
