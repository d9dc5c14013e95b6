-- No faults, stage by stage, against what a clean image is.
use Rattle.std.proofs.Common.{◌≡◌, ℕ, zero, suc, ◌+◌, ◌<◌, ◌≤◌, Bool, true, false, ◌&&◌, cond, nat_lt, List, [], ◌∷◌, ◌++◌, length, map, filter, Option, refl, ap, arith, inl, inr, zero-le}
use Rattle.std.specs.List.{AllByRecursion, list_any, flat_map, range_with_len}
use Rattle.std.proofs.lemmas.Bool.{cases_Bool, cases_eq, cases_lt, cases_order, both_ways, false_from_ne_true, true_from_ne_false, or_parts, or_from, and_left, and_right, ltb-false, lt-ltb, le-ltb}
use Rattle.std.proofs.lemmas.Bool.Decides.{nat_tests}
use Rattle.std.proofs.lemmas.List.Elements.{All-from_recursion}
use Rattle.std.proofs.lemmas.List.{nil_from_length}
use Rattle.std.specs.declared.option.Option.TheVariants.{Some, None}
use Rattle.pd_kinds.proofs.SoundLemmas.{rule_at}
use Rattle.pd_kinds.specs.declared.kind.Stage.{Stage}
use Rattle.pd_kinds.specs.declared.rule.Rule.{Rule}
use Rattle.pd_kinds.specs.declared.rule.Fault.{Fault}
use Rattle.pd_kinds.specs.declared.rule.Space.{Space}
use Rattle.pd_kinds.specs.declared.rule.Space.TheVariants.{Meta, DataBlock}
use Rattle.pd_kinds.specs.Rule.{number_of, all_rules, meta_fault, faults_at}
use Rattle.pd_kinds.specs.Graph.{Graph, block_at, pair, is_reached, is_inner_pair, meta_count, data_count, is_deep, is_in_range}
use Rattle.pd_kinds.specs.Stages.{Checked, super_faults, roles_of, walk_bad, is_out_of_range, order_bad, block_faults, count_fault, count_faults, stage_faults, stages_to, first_failing, HasCleanSuper, IsReached, AreClean}
use Rattle.pd_kinds.specs.Whole.{whole_bad}
use Rattle.pd_kinds.proofs.ReportLemmas.{number_below}
use Rattle.pd_kinds.specs.InOrder.{AreInOrder}
use Rattle.pd_kinds.specs.declared.kind.Stage.TheVariants as stages
use Rattle.pd_kinds.specs.declared.rule.Rule.TheVariants as r

module _ {X : Type 0} where
  pub cons_isnt_nil : {x : X} {xs : List X} → x ∷ xs ≡ [] → ⊥
  cons_isnt_nil e = cc

  nil_from_append : (xs ys : List X) → xs ++ ys ≡ [] → (xs ≡ []) × (ys ≡ [])
  nil_from_append [] ys e = (refl, e)
  nil_from_append (x ∷ xs) ys e = absurd (cc)

  append_nil : (xs ys : List X) → xs ≡ [] → ys ≡ [] → xs ++ ys ≡ []
  append_nil xs ys none also = rw none also

  nil_from_first : (xs ys : List X) → cond (nat_lt 0 (length xs)) xs ys ≡ [] → (xs ≡ []) × (ys ≡ [])
  nil_from_first [] ys e = (refl, e)
  nil_from_first (x ∷ xs) ys e =
      absurd (cons_isnt_nil (rw (lt-ltb 0 (suc (length xs)) (omega arith)) at e))

  first_nil : (xs ys : List X) → xs ≡ [] → ys ≡ [] → cond (nat_lt 0 (length xs)) xs ys ≡ []
  first_nil xs ys none later = rw none later

  all_from : (P : X → Type 0) (xs : List X) → ((x : X) → P x) → AllByRecursion P xs
  all_from P [] holds = tt
  all_from P (x ∷ xs) holds = (holds x, all_from P xs holds)

  -- a filter finds nothing where each element fails its test
  none_filtered : (p : X → Bool) (xs : List X) → filter p xs ≡ [] → AllByRecursion (λ x. p x ≡ false) xs
  none_filtered p [] e = tt
  none_filtered p (x ∷ xs) e = elim (cases_Bool (p x)) [
    | inl found ↦ absurd (cons_isnt_nil (rw found at e))
    | inr missed ↦ (missed, none_filtered p xs (rw missed at e))
  ]

  filtered_none : (p : X → Bool) (xs : List X) → AllByRecursion (λ x. p x ≡ false) xs → filter p xs ≡ []
  filtered_none p [] fails = refl
  filtered_none p (x ∷ xs) fails = rw fails.0 (filtered_none p xs fails.1)

  -- none of those that a filter q finds passes p
  none_passes : (p q : X → Bool) (xs : List X) → list_any p (filter q xs) ≡ false → AllByRecursion (λ x. q x ≡ true → p x ≡ false) xs
  none_passes p q [] e = tt
  none_passes p q (x ∷ xs) e = elim (cases_Bool (q x)) [
    | inl found ↦
        let parts = or_parts (p x) (list_any p (filter q xs)) (rw found at e) in
        ((λ _. parts.0), none_passes p q xs parts.1)
    | inr missed ↦ ((λ found. absurd (both_ways (q x) missed found)), none_passes p q xs (rw missed at e))
  ]

  passes_none : (p q : X → Bool) (xs : List X) → AllByRecursion (λ x. q x ≡ true → p x ≡ false) xs → list_any p (filter q xs) ≡ false
  passes_none p q [] fails = refl
  passes_none p q (x ∷ xs) fails = elim (cases_Bool (q x)) [
    | inl found ↦ rw found (or_from (p x) (list_any p (filter q xs)) (fails.0 found) (passes_none p q xs fails.1))
    | inr missed ↦ rw missed (passes_none p q xs fails.1)
  ]

module _ {X Y : Type 0} where
  nil_from_map : (f : X → Y) (xs : List X) → map f xs ≡ [] → xs ≡ []
  nil_from_map f [] e = refl
  nil_from_map f (x ∷ xs) e = absurd (cc)

  none_mapped : (f : X → List Y) (xs : List X) → flat_map f xs ≡ [] → AllByRecursion (λ x. f x ≡ []) xs
  none_mapped f [] e = tt
  none_mapped f (x ∷ xs) e =
      let parts = nil_from_append (f x) (flat_map f xs) e in
      (parts.0, none_mapped f xs parts.1)

  mapped_none : (f : X → List Y) (xs : List X) → AllByRecursion (λ x. f x ≡ []) xs → flat_map f xs ≡ []
  mapped_none f [] none = refl
  mapped_none f (x ∷ xs) none = rw none.0 (mapped_none f xs none.1)

-- the numbers of a range, one after another
pub all_of_range : (P : ℕ → Type 0) (a n : ℕ) → ((k : ℕ) → a ≤ k → k < a + n → P k) → AllByRecursion P (range_with_len a n)
all_of_range P a zero holds = tt
all_of_range P a (suc n) holds =
    (holds a (omega arith) (omega arith), all_of_range P (a + 1) n (λ k from below. holds k (omega arith) (omega arith)))

pub at_of_range : (P : ℕ → Type 0) (a n k : ℕ) → a ≤ k → k < a + n → AllByRecursion P (range_with_len a n) → P k
at_of_range P a zero k from below all = absurd (omega arith)
at_of_range P a (suc n) k from below all = elim (cases_lt a k) [
  | inl later ↦ at_of_range P (a + 1) n k (omega arith) (omega arith) all.1
  | inr here ↦ let e : a ≡ k = omega arith in rw e at all.0
]

-- a filter finds at most one number where any two that pass are equal
none_later : (q : ℕ → Bool) (a n x y : ℕ) → length (filter q (range_with_len a n)) ≤ 1 → a ≤ x → x < y → y < a + n → q x ≡ true → q y ≡ false
none_later q a zero x y few from apart below found = absurd (omega arith)
none_later q a (suc n) x y few from apart below found = elim (cases_Bool (q a)) [
  | inl first ↦
      let rest : length (a ∷ filter q (range_with_len (a + 1) n)) ≤ 1 = rw first at few in
      let none = nil_from_length (filter q (range_with_len (a + 1) n)) (omega arith) in
      at_of_range (λ k. q k ≡ false) (a + 1) n y (omega arith) (omega arith) (none_filtered _ _ none)
  | inr other ↦ elim (cases_eq x a) [
    | inl same ↦ absurd (both_ways (q a) other (rw same at found))
    | inr later ↦ none_later q (a + 1) n x y (rw other at few) (omega arith) apart (omega arith) found
  ]
]

only_one : (q : ℕ → Bool) (a n x y : ℕ) → length (filter q (range_with_len a n)) ≤ 1
    → a ≤ x → x < a + n → a ≤ y → y < a + n → q x ≡ true → q y ≡ true → x ≡ y
only_one q a n x y few x_from x_below y_from y_below x_found y_found = elim (cases_order x y) [
  | inl same ↦ same
  | inr other ↦ elim other [
    | inl less ↦ absurd (both_ways (q y) (none_later q a n x y few x_from less y_below x_found) y_found)
    | inr more ↦ absurd (both_ways (q x) (none_later q a n y x few y_from more x_below y_found) x_found)
  ]
]

one_at_most : (q : ℕ → Bool) (a n : ℕ) → ((x y : ℕ) → a ≤ x → x < a + n → a ≤ y → y < a + n → q x ≡ true → q y ≡ true → x ≡ y)
    → length (filter q (range_with_len a n)) ≤ 1
one_at_most q a zero same = omega arith
one_at_most q a (suc n) same = elim (cases_Bool (q a)) [
  | inl found ↦
      let fails = all_of_range (λ k. q k ≡ false) (a + 1) n (λ k from below. false_from_ne_true (q k) (λ also.
      let e = same a k (omega arith) (omega arith) (omega arith) (omega arith) found also in omega arith)) in
      rw (found, filtered_none q (range_with_len (a + 1) n) fails) (omega arith)
  | inr missed ↦ rw missed (one_at_most q (a + 1) n (λ x y x_from x_below y_from y_below. same x y (omega arith) (omega arith) (omega arith) (omega arith)))
]

-- lists that are joined along a range
none_at : {X : Type 0} (f : ℕ → List X) (n : ℕ) → flat_map f (range_with_len 0 n) ≡ [] → (k : ℕ) → k < n → f k ≡ []
none_at f n none k within = at_of_range (λ j. f j ≡ []) 0 n k (omega arith) (omega arith) (none_mapped f (range_with_len 0 n) none)

none_in_range : {X : Type 0} (f : ℕ → List X) (n : ℕ) → ((k : ℕ) → k < n → f k ≡ []) → flat_map f (range_with_len 0 n) ≡ []
none_in_range f n none = mapped_none f (range_with_len 0 n) (all_of_range (λ j. f j ≡ []) 0 n (λ k from below. none k (omega arith)))

-- all rules are among all rules
length-all_rules : length all_rules ≡ 22
unfolding all_rules
length-all_rules = refl

each_rule : (P : Rule → Type 0) → AllByRecursion P all_rules → (rule : Rule) → P rule
each_rule P all rule =
    rw (rule_at rule) at (All-from_recursion P all_rules all (number_of rule) r.Checksum (rw length-all_rules (number_below rule)))

-- blocks have no faults where they break no rule
pub no_rule_broken : (b : ℕ) (bad : Rule → Bool) → faults_at b bad ≡ [] → (broken : Rule) → bad broken ≡ false
unfolding faults_at
no_rule_broken b bad none = each_rule (λ rule. bad rule ≡ false) (none_filtered _ _ (nil_from_map _ _ none))

pub no_faults_at : (b : ℕ) (bad : Rule → Bool) → ((broken : Rule) → bad broken ≡ false) → faults_at b bad ≡ []
unfolding faults_at
no_faults_at b bad clean = ap (map (meta_fault b)) (filtered_none bad all_rules (all_from (λ rule. bad rule ≡ false) all_rules clean))

-- each block keeps each rule
abbrev NoneBroken : ℕ → (ℕ → Rule → Bool) → Type 0
NoneBroken nr bad = (b : ℕ) → b < nr → (broken : Rule) → bad b broken ≡ false

pub no_block_broken : (nr : ℕ) (bad : ℕ → Rule → Bool) → block_faults nr bad ≡ [] → NoneBroken nr bad
unfolding block_faults
no_block_broken nr bad none b within = no_rule_broken b (bad b) (none_at _ nr none b within)

no_block_faults : (nr : ℕ) (bad : ℕ → Rule → Bool) → NoneBroken nr bad → block_faults nr bad ≡ []
unfolding block_faults
no_block_faults nr bad clean = none_in_range _ nr (λ b within. no_faults_at b (bad b) (clean b within))

-- a count has no fault where the stored one is that of the references
same_counts : {X : Type 0} (x y : X) (refs stored : ℕ) → cond (nat_lt refs stored) (x ∷ []) (cond (nat_lt stored refs) (y ∷ []) []) ≡ [] → stored ≡ refs
same_counts x y refs stored none = grind (arith, nat_tests)

stored_is : (space : Space) (b refs : ℕ) (stored : Option ℕ) → count_fault space b refs stored ≡ [] → stored ≡ Some refs
stored_is space b refs None none = absurd (cc)
stored_is space b refs (Some stored) none = ap (λ (n : ℕ). Some n) (same_counts _ _ refs stored none)

no_count_fault : (space : Space) (b refs : ℕ) (stored : Option ℕ) → stored ≡ Some refs → count_fault space b refs stored ≡ []
no_count_fault space b refs stored same = rw (same, le-ltb refs refs (omega arith))

left_false : (b : Bool) → (b && true) ≡ false → b ≡ false
left_false true e = e
left_false false e = refl

-- the stages Walk and Order: what holds of each role in which a block is reached
module _ (graph : Graph) (image : List (List ℕ)) where
  abbrev EachReached : (ℕ → ℕ → Type 0) → Type 0
  EachReached P = (b role : ℕ) → IsReached graph image b role → P b role

  each_reached : (p : ℕ → ℕ → Bool) → ((b : ℕ) → b < graph.nr → list_any (p b) (roles_of graph image b) ≡ false)
      → EachReached (λ b role. p b role ≡ false)
  unfolding roles_of
  each_reached p none b role at =
      at_of_range (λ k. is_reached graph image (pair b k) ≡ true → p b k ≡ false) 0 16 role (omega arith) at.within
      (none_passes (p b) (λ k. is_reached graph image (pair b k)) (range_with_len 0 16) (none b at.block)) at.found

  none_reached : (p : ℕ → ℕ → Bool) → EachReached (λ b role. p b role ≡ false)
      → (b : ℕ) → b < graph.nr → list_any (p b) (roles_of graph image b) ≡ false
  unfolding roles_of
  none_reached p fails b within =
      passes_none (p b) (λ k. is_reached graph image (pair b k)) (range_with_len 0 16)
      (all_of_range (λ k. is_reached graph image (pair b k) ≡ true → p b k ≡ false) 0 16
      (λ k from below found. fails b k (record { block = within; within = below; found = found })))

  walk_rules : NoneBroken graph.nr (walk_bad graph image) → EachReached (λ b role. (broken : Rule) → graph.bad role b (block_at image b) broken ≡ false)
  unfolding walk_bad
  walk_rules none b role at broken =
      each_reached (λ b role. graph.bad role b (block_at image b) broken) (λ b within. (or_parts _ _ (none b within broken)).0) b role at

  walk_one_role : NoneBroken graph.nr (walk_bad graph image)
      → (b role other : ℕ) → IsReached graph image b role → IsReached graph image b other → role ≡ other
  unfolding walk_bad roles_of
  walk_one_role none b role other at also =
      let few = ltb-false 1 (length (roles_of graph image b)) (left_false (nat_lt 1 (length (roles_of graph image b))) (or_parts _ _ (none b at.block r.Role)).1) in
      only_one (λ k. is_reached graph image (pair b k)) 0 16 role other few zero-le at.within zero-le also.within at.found also.found

  no_walk_rules : EachReached (λ b role. (broken : Rule) → graph.bad role b (block_at image b) broken ≡ false)
      → ((b role other : ℕ) → IsReached graph image b role → IsReached graph image b other → role ≡ other)
      → NoneBroken graph.nr (walk_bad graph image)
  unfolding walk_bad roles_of
  no_walk_rules clean one b within broken =
      let few = one_at_most (λ k. is_reached graph image (pair b k)) 0 16
      (λ x y x_from x_below y_from y_below x_found y_found. one b x y
      (record { block = within; within = x_below; found = x_found }) (record { block = within; within = y_below; found = y_found })) in
      or_from _ _
      (none_reached (λ b role. graph.bad role b (block_at image b) broken) (λ b role at. clean b role at broken) b within)
      (and_left _ _ (le-ltb 1 (length (roles_of graph image b)) few))

  order_depths : NoneBroken graph.nr (order_bad graph image) → EachReached (λ b role. is_deep graph image (pair b role) ≡ false)
  unfolding order_bad
  order_depths none = each_reached (λ b role. is_deep graph image (pair b role))
      (λ b within. left_false _ (or_parts _ _ (none b within r.Level)).0)

  order_ranges : NoneBroken graph.nr (order_bad graph image) → EachReached (λ b role. is_out_of_range graph image (pair b role) ≡ false)
  unfolding order_bad
  order_ranges none = each_reached (λ b role. is_out_of_range graph image (pair b role))
      (λ b within. left_false _ (or_parts _ _ (none b within r.Range)).1)

  in_range : (p : ℕ) → is_out_of_range graph image p ≡ false → is_deep graph image p ≡ false → is_inner_pair graph image p ≡ true → is_in_range graph image p ≡ true
  unfolding is_out_of_range
  in_range p fits shallow inner =
      true_from_ne_false (is_in_range graph image p)
      (λ out. let e : true ≡ false = rw (inner, shallow, out) at fits in cc)

  not_out_of_range : (p : ℕ) → (is_inner_pair graph image p ≡ true → is_in_range graph image p ≡ true) → is_out_of_range graph image p ≡ false
  unfolding is_out_of_range
  not_out_of_range p fits = elim (cases_Bool (is_inner_pair graph image p)) [
    | inl inner ↦ rw (inner, fits inner) (and_right _ _ refl)
    | inr leaf ↦ rw leaf
  ]

  no_order_rules : EachReached (λ b role. is_deep graph image (pair b role) ≡ false)
      → EachReached (λ b role. is_inner_pair graph image (pair b role) ≡ true → is_in_range graph image (pair b role) ≡ true)
      → NoneBroken graph.nr (order_bad graph image)
  unfolding order_bad
  no_order_rules shallow fits b within broken =
      or_from _ _
      (and_left _ _ (none_reached (λ b role. is_deep graph image (pair b role)) shallow b within))
      (and_left _ _ (none_reached (λ b role. is_out_of_range graph image (pair b role)) (λ b role at. not_out_of_range (pair b role) (fits b role at)) b within))

-- the stage Super
clean_super : (checked : Checked) (image : List (List ℕ)) → super_faults checked image ≡ [] → HasCleanSuper checked image
unfolding super_faults
clean_super checked [] none = cons_isnt_nil none
clean_super checked (block ∷ blocks) none = no_rule_broken 0 (checked.super_bad (length (block ∷ blocks)) block) none

no_super_faults : (checked : Checked) (image : List (List ℕ)) → HasCleanSuper checked image → super_faults checked image ≡ []
unfolding super_faults
no_super_faults checked [] clean = absurd clean
no_super_faults checked (block ∷ blocks) clean = no_faults_at 0 (checked.super_bad (length (block ∷ blocks)) block) clean

-- all stages of a check
module _ (checked : Checked) (image : List (List ℕ)) where
  no_stage_fails : (list : List Stage) → first_failing checked image list ≡ [] → AllByRecursion (λ stage. stage_faults checked image stage ≡ []) list
  unfolding first_failing
  no_stage_fails [] none = tt
  no_stage_fails (stage ∷ list) none =
      let parts = nil_from_first _ _ none in
      (parts.0, no_stage_fails list parts.1)

  none_failing : (list : List Stage) → AllByRecursion (λ stage. stage_faults checked image stage ≡ []) list → first_failing checked image list ≡ []
  unfolding first_failing
  none_failing [] all = refl
  none_failing (stage ∷ list) all = first_nil _ _ all.0 (none_failing list all.1)

  -- the faults of the counts of one block
  abbrev meta_at : ℕ → List Fault
  meta_at b = count_fault Meta b (meta_count checked.graph image b) (checked.stored_meta b)

  abbrev data_at : ℕ → List Fault
  data_at d = count_fault DataBlock d (data_count checked.graph image d) (checked.stored_data d)

  -- no faults up to Order, or up to a later stage
  pub in_order_where_none : (later : List Stage) → first_failing checked image (stages.Super ∷ stages.Walk ∷ stages.Order ∷ later) ≡ [] → AreInOrder checked.graph image
  in_order_where_none later none =
      let all = no_stage_fails (stages.Super ∷ stages.Walk ∷ stages.Order ∷ later) none in
      let walk = no_block_broken checked.graph.nr (walk_bad checked.graph image) all.1.0 in
      let order = no_block_broken checked.graph.nr (order_bad checked.graph image) all.1.1.0 in
      let shallow = order_depths checked.graph image order in
      record {
        well_formed = walk_rules checked.graph image walk;
        not_deep = shallow;
        in_range = λ b role at. in_range checked.graph image (pair b role) (order_ranges checked.graph image order b role at) (shallow b role at);
      }

  -- no faults up to Whole, or up to a later stage
  pub whole_where_none : (later : List Stage) → first_failing checked image (stages.Super ∷ stages.Walk ∷ stages.Order ∷ stages.Whole ∷ later) ≡ []
      → (b : ℕ) (broken : Rule) → b < checked.graph.nr → whole_bad checked.whole b broken ≡ false
  whole_where_none later none b broken within =
      let all = no_stage_fails (stages.Super ∷ stages.Walk ∷ stages.Order ∷ stages.Whole ∷ later) none in
      no_block_broken checked.graph.nr (whole_bad checked.whole) all.1.1.1.0 b within broken

  -- no faults up to any stage
  pub clean_super_where_none : (later : List Stage) → first_failing checked image (stages.Super ∷ later) ≡ [] → HasCleanSuper checked image
  clean_super_where_none later none = clean_super checked image (no_stage_fails (stages.Super ∷ later) none).0

  pub clean_where_none : first_failing checked image (stages_to stages.Counts) ≡ [] → AreClean checked image
  unfolding count_faults
  clean_where_none none =
      let all = no_stage_fails (stages_to stages.Counts) none in
      let walk = no_block_broken checked.graph.nr (walk_bad checked.graph image) all.1.0 in
      let order = in_order_where_none (stages.Whole ∷ stages.Counts ∷ []) none in
      let counts = nil_from_append (flat_map meta_at (range_with_len 0 checked.graph.nr)) (flat_map data_at (range_with_len 0 checked.graph.data_blocks)) all.1.1.1.1.0 in
      record {
        super_block = clean_super checked image all.0;
        well_formed = order.well_formed;
        one_role = walk_one_role checked.graph image walk;
        not_deep = order.not_deep;
        in_range = order.in_range;
        whole = whole_where_none (stages.Counts ∷ []) none;
        meta_counts = λ b within. stored_is Meta b (meta_count checked.graph image b) (checked.stored_meta b) (none_at meta_at _ counts.0 b within);
        data_counts = λ d within. stored_is DataBlock d (data_count checked.graph image d) (checked.stored_data d) (none_at data_at _ counts.1 d within);
      }

  no_counts : AreClean checked image → count_faults checked image ≡ []
  unfolding count_faults
  no_counts clean = append_nil _ _
      (none_in_range meta_at _ (λ b within. no_count_fault Meta b (meta_count checked.graph image b) (checked.stored_meta b) (clean.meta_counts b within)))
      (none_in_range data_at _ (λ d within. no_count_fault DataBlock d (data_count checked.graph image d) (checked.stored_data d) (clean.data_counts d within)))

  pub none_where_clean : AreClean checked image → first_failing checked image (stages_to stages.Counts) ≡ []
  none_where_clean clean =
      let walk = no_block_faults checked.graph.nr (walk_bad checked.graph image) (no_walk_rules checked.graph image clean.well_formed clean.one_role) in
      let order = no_block_faults checked.graph.nr (order_bad checked.graph image) (no_order_rules checked.graph image clean.not_deep clean.in_range) in
      let whole = no_block_faults checked.graph.nr (whole_bad checked.whole) (λ b within broken. clean.whole b broken within) in
      none_failing (stages_to stages.Counts) (no_super_faults checked image clean.super_block, (walk, (order, (whole, (no_counts clean, tt)))))
