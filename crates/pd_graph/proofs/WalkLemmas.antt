-- A pair more is taken and looked at: what holds on the way still holds.
use Rattle.std.proofs.Common.{◌≡◌, ◌≢◌, inl, inr, ℕ, ◌+◌, ◌*◌, ◌/◌, ◌%◌, ◌^◌, ◌<◌, ◌≤◌, Bool, true, false, ◌&&◌, ◌||◌, cond, nat_eq, get_or, List, [], ◌∷◌, map, length, Some, refl, sym, ◌∙◌, ap, subst, eq-eqb, arith}
use Rattle.std.proofs.Math.Bool.{or-false}
use Rattle.std.specs.List.{list_any, count_by, AllByRecursion, range_with_len, slice_get}
use Rattle.std.specs.Option.{unwrap_or}
use Rattle.std.proofs.lemmas.Bool.{or_cases, or_left, or_right, eqb-true, cases_eq, both_ways}
use Rattle.std.proofs.lemmas.List.Sums.{count_by-le-length}
use Rattle.std.proofs.lemmas.List.{length-map}
use Rattle.pd_kinds.specs.declared.limits.TheConstants.{MAX_META_BLOCKS}
use Rattle.pd_kinds.specs.declared.rule.Rule.{Rule}
use Rattle.pd_kinds.specs.Graph.{Edge, Graph, block_at, pair, edges_of, next, is_reached, nodes}
use Rattle.pd_kinds.specs.Lawful.{IsWithin, KeepsLaws}
use Rattle.pd_kinds.specs.Paths.{edge}
use Rattle.pd_kinds.proofs.NumberLemmas.{differ}
use Rattle.pd_kinds.proofs.PathLemmas.{reached_from_path}
use Rattle.pd_graph.specs.declared.marks.Marks.{Marks}
use Rattle.pd_graph.specs.Marks.{is_in, IsAllRead, HasPlaces, has_rule_in, seen_of, read_of, counts_of, rules_of, TakesPair, Follows, LooksAtPair, KeepsTables}
use Rattle.pd_graph.specs.Walk.{weigh, IsSafe, IsTold, read_number, edges_to}
use Rattle.pd_graph.proofs.BitLemmas.{pair_block, pair_role}
use Rattle.pd_graph.proofs.Weights.{more_weight, wider_weight, ones_below, length_weighs}
use Rattle.pd_graph.proofs.AnyLemmas.{any_same, any_more}

-- a pair was taken, and its block looked at
pub record StepsMarks (b role : ℕ) (edges : List Edge) (bad : Rule → Bool) (old new : Marks) : Type 0 where
  pub places : (nr : ℕ) → HasPlaces nr old → HasPlaces nr new
  pub within : role < 16
  pub met : is_in (seen_of old) (pair b role) ≡ true
  pub unread : is_in (read_of old) (pair b role) ≡ false
  pub seen : (p : ℕ) → is_in (seen_of new) p
      ≡ (is_in (seen_of old) p || list_any (λ t. nat_eq t p) (map (λ (edge : Edge). pair edge.block edge.role) edges))
  pub read : (p : ℕ) → is_in (read_of new) p ≡ (is_in (read_of old) p || nat_eq p (pair b role))
  pub counts : (c : ℕ) → get_or (counts_of new) c 0 ≡ get_or (counts_of old) c 0 + count_by (λ r. nat_eq r c) (map (λ (edge : Edge). edge.block) edges)
  pub rules : (c : ℕ) (wanted : Rule) → has_rule_in (rules_of new) c wanted ≡ (has_rule_in (rules_of old) c wanted || (nat_eq c b && bad wanted))

pub steps_from : (b role : ℕ) (edges : List Edge) (bad : Rule → Bool) (old between new : Marks) → TakesPair b role old between → LooksAtPair edges b bad between new
    → StepsMarks b role edges bad old new
steps_from b role edges bad old between new takes looks = record {
  places = λ nr places. looks.follows.places nr (takes.places nr places);
  within = takes.found.within;
  met = takes.found.met;
  unread = takes.found.unread;
  seen = λ p.
      looks.follows.seen p
      ∙ ap (λ (table : List ℕ). is_in table p || list_any (λ t. nat_eq t p) (map (λ (edge : Edge). pair edge.block edge.role) edges)) takes.seen;
  read = λ p. ap (λ (table : List ℕ). is_in table p) looks.follows.read ∙ takes.read p;
  counts = λ c.
      looks.follows.counts c
      ∙ ap (λ (table : List ℕ). get_or table c 0 + count_by (λ r. nat_eq r c) (map (λ (edge : Edge). edge.block) edges)) takes.counts;
  rules = λ c wanted. looks.rules c wanted ∙ ap (λ table. has_rule_in table c wanted || (nat_eq c b && bad wanted)) takes.rules;
}

-- the pair that was taken is one of those below the bound
pub taken_below : (nr b role : ℕ) (old new : Marks) → HasPlaces nr old → TakesPair b role old new → pair b role < 16 * nr
taken_below nr b role old new places takes =
    let small = takes.found.block in
    let within = takes.found.within in
    let same = places.seen in
    omega arith

-- its role is one that there is
pub taken_known : (graph : Graph) (b role : ℕ) (old new : Marks) → IsSafe graph old → TakesPair b role old new → role < graph.roles
taken_known graph b role old new safe takes =
    let known = safe.known (pair b role) takes.found.met in
    let same = pair_role b role takes.found.within in
    omega arith

-- and one more is read
pub one_more_read : (nr b role : ℕ) (old new : Marks) → HasPlaces nr old → TakesPair b role old new → read_number nr new ≡ read_number nr old + 1
unfolding read_number
one_more_read nr b role old new places takes =
    more_weight (is_in (read_of old)) (is_in (read_of new)) (λ p. 1) (pair b role) (16 * nr)
    (taken_below nr b role old new places takes) takes.found.unread takes.read

-- there are only so many to read
pub read_at_most : (nr : ℕ) (marks : Marks) → read_number nr marks ≤ 16 * nr
unfolding read_number
read_at_most nr marks = ones_below (is_in (read_of marks)) (16 * nr)

-- what is read while a block is looked at is what was taken
pub read_kept : (nr : ℕ) (edges : List Edge) (old new : Marks) → Follows edges old new → read_number nr new ≡ read_number nr old
unfolding read_number
read_kept nr edges old new follows = ap (λ (table : List ℕ). weigh (is_in table) (λ p. 1) (16 * nr)) follows.read

-- where an edge leads
pub leads_within : (graph : Graph) (edges : List Edge) (t : ℕ) → graph.roles ≤ 16 → AllByRecursion (IsWithin graph) edges
    → list_any (λ s. nat_eq s t) (map (λ (edge : Edge). pair edge.block edge.role) edges) ≡ true → (t % 16 < graph.roles) × (t < 16 * graph.nr)
leads_within graph [] t few all leads = absurd (both_ways _ refl leads)
leads_within graph (x ∷ xs) t few all leads = elim (or_cases (nat_eq (pair x.block x.role) t) _ leads) [
  | inl same ↦
      let e = eqb-true (pair x.block x.role) t same in
      let first = all.0 in
      let role = pair_role x.block x.role (omega arith) in
      (subst (λ (p : ℕ). p % 16 < graph.roles) e (omega arith), omega arith)
  | inr later ↦ leads_within graph xs t few all.1 later
]

-- a step is safe
pub safe_step : (graph : Graph) (b role : ℕ) (block : List ℕ) (old between new : Marks) → graph.roles ≤ 16 → KeepsLaws graph role b block
    → IsSafe graph old → TakesPair b role old between → LooksAtPair (graph.edges role b block) b (graph.bad role b block) between new → IsSafe graph new
safe_step graph b role block old between new few laws safe takes looks =
    let step = steps_from b role (graph.edges role b block) (graph.bad role b block) old between new takes looks in
    let more = one_more_read graph.nr b role old between safe.places takes in
    let kept = read_kept graph.nr (graph.edges role b block) between new looks.follows in
    record {
      places = step.places graph.nr safe.places;
      known = λ p seen. elim (or_cases (is_in (seen_of old) p) _ (sym (step.seen p) ∙ seen)) [
        | inl before ↦ safe.known p before
        | inr leads ↦ (leads_within graph (graph.edges role b block) p few laws.within leads).0
      ];
      met = λ p read. step.seen p ∙ or_left (is_in (seen_of old) p) _ (elim (or_cases (is_in (read_of old) p) (nat_eq p (pair b role)) (sym (step.read p) ∙ read)) [
        | inl before ↦ safe.met p before
        | inr same ↦ ap (is_in (seen_of old)) (eqb-true p (pair b role) same) ∙ step.met
      ]);
      room = λ c.
          let now = step.counts c in
          let before = safe.room c in
          let test = λ (r : ℕ). nat_eq r c in
          let blocks = map (λ (edge : Edge). edge.block) (graph.edges role b block) in
          let some = count_by-le-length test blocks in
          let number : length blocks ≡ length (graph.edges role b block) = length-map {A = Edge} {B = ℕ} (graph.edges role b block) (λ edge. edge.block) in
          let most = laws.edge_number in
          omega arith;
    }

-- a pair's edges are those of its block in its role
edges_of_pair : (graph : Graph) (image : List (List ℕ)) (b role : ℕ) (block : List ℕ) → role < 16 → slice_get image b ≡ Some block
    → edges_of graph image (pair b role) ≡ graph.edges role b block
edges_of_pair graph image b role block within found =
    ap (λ (r : ℕ). graph.edges r (pair b role / 16) (block_at image (pair b role / 16))) (pair_role b role within)
    ∙ (ap (λ (place : ℕ). graph.edges role place (block_at image place)) (pair_block b role within)
    ∙ ap (λ o. graph.edges role b (unwrap_or o [])) found)

pub next_of_pair : (graph : Graph) (image : List (List ℕ)) (b role : ℕ) (block : List ℕ) → role < 16 → slice_get image b ≡ Some block
    → next graph image (pair b role) ≡ map (λ (edge : Edge). pair edge.block edge.role) (graph.edges role b block)
unfolding next
next_of_pair graph image b role block within found =
    ap (map (λ (edge : Edge). pair edge.block edge.role)) (edges_of_pair graph image b role block within found)

pub edges_to_of_pair : (graph : Graph) (image : List (List ℕ)) (b role c : ℕ) (block : List ℕ) → role < 16 → slice_get image b ≡ Some block
    → edges_to graph image c (pair b role) ≡ count_by (λ r. nat_eq r c) (map (λ (edge : Edge). edge.block) (graph.edges role b block))
unfolding edges_to
edges_to_of_pair graph image b role c block within found =
    ap (λ (edges : List Edge). count_by (λ r. nat_eq r c) (map (λ (edge : Edge). edge.block) edges)) (edges_of_pair graph image b role block within found)

-- the same role of a block is the same pair
same_pair : (b r role : ℕ) → r < 16 → role < 16 → nat_eq (pair b r) (pair b role) ≡ nat_eq r role
same_pair b r role small within = elim (cases_eq r role) [
  | inl e ↦ eq-eqb (pair b r) (pair b role) (omega arith) ∙ sym (eq-eqb r role e)
  | inr ne ↦ differ (pair b r) (pair b role) (λ e. ne (omega arith)) ∙ sym (differ r role ne)
]

-- the rules of a block in the roles below n after a step: of the block that was looked at, and of another
own_rules_step : (graph : Graph) (image : List (List ℕ)) (b role : ℕ) (block : List ℕ) (old new : Marks) → slice_get image b ≡ Some block
    → StepsMarks b role (graph.edges role b block) (graph.bad role b block) old new → (n : ℕ) (wanted : Rule) → n ≤ 16 → role < n
    → list_any (λ r. is_in (read_of new) (pair b r) && graph.bad r b (block_at image b) wanted) (range_with_len 0 n)
    ≡ (list_any (λ r. is_in (read_of old) (pair b r) && graph.bad r b (block_at image b) wanted) (range_with_len 0 n) || graph.bad role b block wanted)
own_rules_step graph image b role block old new found step n wanted few within =
    let before = λ (r : ℕ). is_in (read_of old) (pair b r) in
    let bad = λ (r : ℕ). graph.bad r b (block_at image b) wanted in
    let more = any_more before (λ r. is_in (read_of new) (pair b r)) bad n role within
    (λ r small. step.read (pair b r) ∙ ap (λ (x : Bool). is_in (read_of old) (pair b r) || x) (same_pair b r role (omega arith) step.within)) in
    more ∙ ap (λ o. list_any (λ r. before r && bad r) (range_with_len 0 n) || graph.bad role b (unwrap_or o []) wanted) found

other_rules_step : (graph : Graph) (image : List (List ℕ)) (b role : ℕ) (block : List ℕ) (old new : Marks)
    → StepsMarks b role (graph.edges role b block) (graph.bad role b block) old new → (c n : ℕ) (wanted : Rule) → c ≢ b → n ≤ 16
    → list_any (λ r. is_in (read_of new) (pair c r) && graph.bad r c (block_at image c) wanted) (range_with_len 0 n)
    ≡ list_any (λ r. is_in (read_of old) (pair c r) && graph.bad r c (block_at image c) wanted) (range_with_len 0 n)
other_rules_step graph image b role block old new step c n wanted ne few =
    any_same _ _ n (λ r small.
    let within = step.within in
    let same = step.read (pair c r)
    ∙ (ap (λ (x : Bool). is_in (read_of old) (pair c r) || x) (differ (pair c r) (pair b role) (λ e. ne (omega arith))) ∙ or-false (is_in (read_of old) (pair c r))) in
    ap (λ (x : Bool). x && graph.bad r c (block_at image c) wanted) same)

rules_step : (graph : Graph) (image : List (List ℕ)) (b role : ℕ) (block : List ℕ) (old new : Marks) → slice_get image b ≡ Some block
    → StepsMarks b role (graph.edges role b block) (graph.bad role b block) old new → (c n : ℕ) (wanted : Rule) → n ≤ 16 → role < n
    → list_any (λ r. is_in (read_of new) (pair c r) && graph.bad r c (block_at image c) wanted) (range_with_len 0 n)
    ≡ (list_any (λ r. is_in (read_of old) (pair c r) && graph.bad r c (block_at image c) wanted) (range_with_len 0 n) || (nat_eq c b && graph.bad role b block wanted))
rules_step graph image b role block old new found step c n wanted few within = elim (cases_eq c b) [
  | inl same ↦
      subst
      (λ (x : ℕ). list_any (λ r. is_in (read_of new) (pair x r) && graph.bad r x (block_at image x) wanted) (range_with_len 0 n)
      ≡ (list_any (λ r. is_in (read_of old) (pair x r) && graph.bad r x (block_at image x) wanted) (range_with_len 0 n) || (nat_eq x b && graph.bad role b block wanted)))
      (sym same)
      (own_rules_step graph image b role block old new found step n wanted few within
      ∙ ap (λ (x : Bool). list_any (λ r. is_in (read_of old) (pair b r) && graph.bad r b (block_at image b) wanted) (range_with_len 0 n) || (x && graph.bad role b block wanted)) (sym (eq-eqb b b refl)))
  | inr ne ↦
      let before = list_any (λ (r : ℕ). is_in (read_of old) (pair c r) && graph.bad r c (block_at image c) wanted) (range_with_len 0 n) in
      other_rules_step graph image b role block old new step c n wanted ne few
      ∙ (sym (or-false before) ∙ ap (λ (x : Bool). before || (x && graph.bad role b block wanted)) (sym (differ c b ne)))
]

-- a step is told
pub told_step : (graph : Graph) (image : List (List ℕ)) (b role : ℕ) (block : List ℕ) (old between new : Marks) → IsSafe graph old
    → slice_get image b ≡ Some block → IsTold graph image old → TakesPair b role old between → LooksAtPair (graph.edges role b block) b (graph.bad role b block) between new → IsTold graph image new
told_step graph image b role block old between new safe found told takes looks =
    let edges = graph.edges role b block in
    let step = steps_from b role edges (graph.bad role b block) old between new takes looks in
    let small = taken_below graph.nr b role old between safe.places takes in
    let leads = next_of_pair graph image b role block step.within found in
    record {
      start = step.seen 0 ∙ or_left (is_in (seen_of old) 0) _ told.start;
      sound = λ p seen. elim (or_cases (is_in (seen_of old) p) _ (sym (step.seen p) ∙ seen)) [
        | inl before ↦ told.sound p before
        | inr met ↦ edge (pair b role) p small (told.sound (pair b role) step.met) (ap (list_any (λ t. nat_eq t p)) leads ∙ met)
      ];
      closed = λ p t read met. elim (or_cases (is_in (read_of old) p) (nat_eq p (pair b role)) (sym (step.read p) ∙ read)) [
        | inl before ↦ step.seen t ∙ or_left (is_in (seen_of old) t) _ (told.closed p t before met)
        | inr same ↦
            let e = eqb-true p (pair b role) same in
            step.seen t ∙ or_right (is_in (seen_of old) t) _ (ap (list_any (λ s. nat_eq s t)) (sym leads) ∙ (ap (λ (q : ℕ). list_any (λ s. nat_eq s t) (next graph image q)) (sym e) ∙ met))
      ];
      counts = λ c.
          let now = step.counts c in
          let before = told.counts c in
          let weight = more_weight (is_in (read_of old)) (is_in (read_of new)) (edges_to graph image c) (pair b role) (16 * graph.nr) small step.unread step.read in
          let own = edges_to_of_pair graph image b role c block step.within found in
          omega arith;
      rules = λ c wanted.
          step.rules c wanted
          ∙ (ap (λ (x : Bool). x || (nat_eq c b && graph.bad role b block wanted)) (told.rules c wanted)
          ∙ sym (rules_step graph image b role block old new found step c 16 wanted (omega arith) step.within));
    }

-- the pairs that were read are some of those that are reached, where they were met
pub read_reached : (graph : Graph) (image : List (List ℕ)) (marks now : Marks) → IsTold graph image marks
    → ((p : ℕ) → is_in (read_of now) p ≡ true → is_in (seen_of marks) p ≡ true) → read_number graph.nr now ≤ length (nodes graph image)
unfolding read_number nodes is_reached
read_reached graph image marks now told met =
    let number = length_weighs (is_reached graph image) (16 * graph.nr) in
    let wider = wider_weight (is_in (read_of now)) (is_reached graph image) (λ p. 1) (16 * graph.nr)
    (λ p read. reached_from_path (16 * graph.nr) (next graph image) p (told.sound p (met p read))) in
    omega arith

-- and so is the one that is taken
pub taken_reached : (graph : Graph) (image : List (List ℕ)) (b role : ℕ) (old new : Marks) → IsSafe graph old → IsTold graph image old → TakesPair b role old new
    → read_number graph.nr new ≤ length (nodes graph image)
taken_reached graph image b role old new safe told takes =
    read_reached graph image old new told (λ p read. elim (or_cases (is_in (read_of old) p) (nat_eq p (pair b role)) (sym (takes.read p) ∙ read)) [
      | inl before ↦ safe.met p before
      | inr same ↦ ap (is_in (seen_of old)) (eqb-true p (pair b role) same) ∙ takes.found.met
    ])

-- there is room for the edges of the pair that was taken
pub room_taken : (graph : Graph) (b role : ℕ) (old new : Marks) → graph.nr ≤ MAX_META_BLOCKS → IsSafe graph old → TakesPair b role old new
    → (c : ℕ) → get_or (counts_of new) c 0 + 256 ≤ 2 ^ 64
room_taken graph b role old new few safe takes c =
    let same = ap (λ (table : List ℕ). get_or table c 0) takes.counts in
    let before = safe.room c in
    let most = read_at_most graph.nr old in
    omega arith

-- what holds of the tables holds where they stay
pub safe_kept : (graph : Graph) (old new : Marks) → KeepsTables old new → IsSafe graph old → IsSafe graph new
unfolding read_number
safe_kept graph old new kept safe = record {
  places = record {
    seen = ap length kept.seen ∙ safe.places.seen;
    read = ap length kept.read ∙ safe.places.read;
    counts = ap length kept.counts ∙ safe.places.counts;
    rules = ap length kept.rules ∙ safe.places.rules;
  };
  known = λ p seen. safe.known p (sym (ap (λ (table : List ℕ). is_in table p) kept.seen) ∙ seen);
  met = λ p read.
      ap (λ (table : List ℕ). is_in table p) kept.seen ∙ safe.met p (sym (ap (λ (table : List ℕ). is_in table p) kept.read) ∙ read);
  room = λ c.
      let count = ap (λ (table : List ℕ). get_or table c 0) kept.counts in
      let number = ap (λ (table : List ℕ). weigh (is_in table) (λ p. 1) (16 * graph.nr)) kept.read in
      let before = safe.room c in
      omega arith;
}

pub told_kept : (graph : Graph) (image : List (List ℕ)) (old new : Marks) → KeepsTables old new → IsTold graph image old → IsTold graph image new
told_kept graph image old new kept told =
    let seen = λ (p : ℕ). ap (λ (table : List ℕ). is_in table p) kept.seen in
    let read = λ (p : ℕ). ap (λ (table : List ℕ). is_in table p) kept.read in
    record {
      start = seen 0 ∙ told.start;
      sound = λ p met. told.sound p (sym (seen p) ∙ met);
      closed = λ p t done leads. seen t ∙ told.closed p t (sym (read p) ∙ done) leads;
      counts = λ c.
          ap (λ (table : List ℕ). get_or table c 0) kept.counts
          ∙ (told.counts c ∙ ap (λ (table : List ℕ). cond (nat_eq 0 c) 1 0 + weigh (is_in table) (edges_to graph image c) (16 * graph.nr)) (sym kept.read));
      rules = λ c wanted.
          ap (λ table. has_rule_in table c wanted) kept.rules
          ∙ (told.rules c wanted
          ∙ ap (λ (table : List ℕ). list_any (λ r. is_in table (pair c r) && graph.bad r c (block_at image c) wanted) (range_with_len 0 16)) (sym kept.read));
    }

pub all_read_kept : (old new : Marks) → KeepsTables old new → IsAllRead (seen_of old) (read_of old) → IsAllRead (seen_of new) (read_of new)
all_read_kept old new kept all = record {
  pairs = λ p met.
      ap (λ (table : List ℕ). is_in table p) kept.read ∙ all.pairs p (sym (ap (λ (table : List ℕ). is_in table p) kept.seen) ∙ met);
}
