-- Where each node is shallow and in range, the keys below a node ascend, so there are no more of them than all leaves have.
use Rattle.std.proofs.Common.{◌≡◌, ◌⊎◌, inl, inr, ℕ, zero, suc, ◌+◌, ◌-◌, ◌*◌, ◌%◌, ◌<◌, ◌≤◌, Bool, true, false, ◌&&◌, not, cond, nat_eq, nat_lt, List, [], ◌∷◌, ◌++◌, length, map, filter, refl, sym, ◌∙◌, ap, subst, arith, eq-eqb}
use Rattle.std.specs.List.{list_all, flat_map, AllByRecursion, range_with_len}
use Rattle.std.proofs.lemmas.Bool.{cases_Bool, or_cases, or_left, or_right, and_parts, and_from, eqb-true, both_ways, cases_eq, ltb-true, ltb-false, lt-ltb, le-ltb, not-true}
use Rattle.std.proofs.lemmas.List.Folds.{list_any-append}
use Rattle.std.proofs.lemmas.List.FromFn.{length-range_with_len}
use Rattle.std.proofs.lemmas.List.{length-map, append-nil}
use Rattle.pd_kinds.specs.Node.{is_ascending}
use Rattle.pd_kinds.specs.Graph.{Graph, block_at, block_of, role_of, pair, own_keys, is_inner_pair, edges_of, next, Edge, children, has_chain, is_in_range, keys_below, are_children_in_range, gathered}
use Rattle.pd_kinds.specs.Lawful.{IsLawful, KeepsLaws}
use Rattle.pd_kinds.proofs.ListLemmas.{length-flat_map}
use Rattle.pd_settle.specs.Notes.{capped}
use Rattle.pd_settle.proofs.KeyLemmas.{gathered_step}
use Rattle.pd_settle.proofs.GoodLemmas.{chain_none}
use Rattle.pd_settle.proofs.ChainLemmas.{is_among, all_among, ends_below}

-- keys that ascend, from a low end on, and below a high one
abbrev pub is_up : ℕ → List ℕ → Bool
is_up low [] = true
is_up low (x ∷ xs) = not (nat_lt x low) && is_up (suc x) xs

up_from : (x : ℕ) (xs : List ℕ) → is_ascending (x ∷ xs) ≡ true → is_up (suc x) xs ≡ true
unfolding is_ascending
up_from x [] e = refl
up_from x (y ∷ ys) e =
    let parts = and_parts (nat_lt x y) (is_ascending (y ∷ ys)) e in
    let less = ltb-true x y parts.0 in
    and_from _ _ (ap not (le-ltb y (suc x) (omega arith))) (up_from y ys parts.1)

pub up_ascending : (low : ℕ) (xs : List ℕ) → is_ascending xs ≡ true → list_all (λ k. not (nat_lt k low)) xs ≡ true → is_up low xs ≡ true
up_ascending low [] e above = refl
up_ascending low (x ∷ xs) e above = and_from _ _ (and_parts _ _ above).0 (up_from x xs e)

-- a higher start allows less
up_lower : (a b : ℕ) (xs : List ℕ) → a ≤ b → is_up b xs ≡ true → is_up a xs ≡ true
up_lower a b [] less e = refl
up_lower a b (x ∷ xs) less e =
    let parts = and_parts _ _ e in
    let over = ltb-false x b (not-true (nat_lt x b) parts.0) in
    and_from _ _ (ap not (le-ltb x a (omega arith))) parts.1

-- lists in a row
up_append : (low high : ℕ) (xs ys : List ℕ) → low ≤ high → is_up low xs ≡ true → list_all (λ k. nat_lt k high) xs ≡ true → is_up high ys ≡ true → is_up low (xs ++ ys) ≡ true
up_append low high [] ys less e below f = up_lower low high ys less f
up_append low high (x ∷ xs) ys less e below f =
    let parts = and_parts _ _ e in
    let bounds = and_parts _ _ below in
    let under = ltb-true x high bounds.0 in
    and_from _ _ parts.0 (up_append (suc x) high xs ys (omega arith) parts.1 bounds.1 f)

-- each number of a list that ascends is at or above its start
up_above : (low q : ℕ) (xs : List ℕ) → is_up low xs ≡ true → is_among q xs ≡ true → low ≤ q
up_above low q [] e among = absurd (both_ways _ refl among)
up_above low q (x ∷ xs) e among =
    let parts = and_parts _ _ e in
    let over = ltb-false x low (not-true (nat_lt x low) parts.0) in
    elim (or_cases (nat_eq x q) (is_among q xs) among) [
      | inl same ↦ let s = eqb-true x q same in omega arith
      | inr later ↦ let rest = up_above (suc x) q xs parts.1 later in omega arith
    ]

among_cond : (q y : ℕ) (b : Bool) (kept : List ℕ) → is_among q kept ≡ true → is_among q (cond b (y ∷ kept) kept) ≡ true
among_cond q y true kept e = or_right (nat_eq y q) _ e
among_cond q y false kept e = e

fewer_cond : (y : ℕ) (b : Bool) (kept : List ℕ) (n : ℕ) → length kept ≤ n → length (cond b (y ∷ kept) kept) ≤ suc n
fewer_cond y true kept n e = omega arith
fewer_cond y false kept n e = omega arith

-- the numbers above one of a list are fewer than all
above_kept : (x q : ℕ) (ys : List ℕ) → x < q → is_among q ys ≡ true → is_among q (filter (λ y. nat_lt x y) ys) ≡ true
above_kept x q [] less among = among
above_kept x q (y ∷ ys) less among = elim (or_cases (nat_eq y q) (is_among q ys) among) [
  | inl same ↦
      let e = eqb-true y q same in
      let passes : nat_lt x y ≡ true = lt-ltb x y (omega arith) in
      ap (λ (b : Bool). is_among q (cond b (y ∷ filter (λ z. nat_lt x z) ys) (filter (λ z. nat_lt x z) ys))) passes ∙ or_left (nat_eq y q) _ same
  | inr later ↦ among_cond q y (nat_lt x y) (filter (λ z. nat_lt x z) ys) (above_kept x q ys less later)
]

fewer_above : (x : ℕ) (ys : List ℕ) → length (filter (λ y. nat_lt x y) ys) ≤ length ys
fewer_above x [] = omega arith
fewer_above x (y ∷ ys) = let rest = fewer_above x ys in fewer_cond y (nat_lt x y) (filter (λ z. nat_lt x z) ys) (length ys) rest

above_fewer : (x : ℕ) (ys : List ℕ) → is_among x ys ≡ true → length (filter (λ y. nat_lt x y) ys) + 1 ≤ length ys
above_fewer x [] among = absurd (both_ways _ refl among)
above_fewer x (y ∷ ys) among = elim (or_cases (nat_eq y x) (is_among x ys) among) [
  | inl same ↦
      let e = eqb-true y x same in
      let out = ap (λ (b : Bool). length (cond b (y ∷ filter (λ z. nat_lt x z) ys) (filter (λ z. nat_lt x z) ys))) (le-ltb x y (omega arith)) in
      let rest = fewer_above x ys in
      omega arith
  | inr later ↦
      let rest = above_fewer x ys later in
      let now = fewer_cond y (nat_lt x y) (filter (λ z. nat_lt x z) ys) (length ys - 1) (omega arith) in
      omega arith
]

-- a list that ascends is no longer than one that has all its numbers
pub up_fewer : (low : ℕ) (xs ys : List ℕ) → is_up low xs ≡ true → ((q : ℕ) → is_among q xs ≡ true → is_among q ys ≡ true) → length xs ≤ length ys
up_fewer low [] ys e all = omega arith
up_fewer low (x ∷ xs) ys e all =
    let parts = and_parts _ _ e in
    let first = above_fewer x ys (all x (or_left (nat_eq x x) _ (eq-eqb x x refl))) in
    let rest = up_fewer (suc x) xs (filter (λ y. nat_lt x y) ys) parts.1
    (λ q among. let over = up_above (suc x) q xs parts.1 among in above_kept x q ys (omega arith) (all q (or_right (nat_eq x q) _ among))) in
    omega arith

-- the same list from another start
up_any : (low start : ℕ) (xs : List ℕ) → is_up low xs ≡ true → list_all (λ k. not (nat_lt k start)) xs ≡ true → is_up start xs ≡ true
up_any low start [] e above = refl
up_any low start (x ∷ xs) e above =
    let first = and_parts (not (nat_lt x start)) (list_all (λ k. not (nat_lt k start)) xs) above in
    let rest = and_parts (not (nat_lt x low)) (is_up (suc x) xs) e in
    and_from (not (nat_lt x start)) (is_up (suc x) xs) first.0 rest.1

head_less : (x y : ℕ) (ys : List ℕ) → is_ascending (x ∷ y ∷ ys) ≡ true → (x < y) × (is_ascending (y ∷ ys) ≡ true)
unfolding is_ascending
head_less x y ys e = let parts = and_parts (nat_lt x y) (is_ascending (y ∷ ys)) e in (ltb-true x y parts.0, parts.1)

-- the keys below children that are in range ascend
ranges_up : (keys : ℕ → List ℕ) (low : ℕ) (lows cs : List ℕ) → is_ascending (low ∷ lows) ≡ true → length (low ∷ lows) ≡ length cs
    → are_children_in_range (low ∷ lows) (map keys cs) ≡ true → AllByRecursion (λ c. is_up 0 (keys c) ≡ true) cs → is_up low (flat_map keys cs) ≡ true
unfolding are_children_in_range
ranges_up keys low lows [] up same ranges each = absurd (omega arith)
ranges_up keys low [] (c ∷ []) up same ranges each =
    let first = up_any 0 low (keys c) each.0 (and_parts _ _ ranges).1 in
    ap (is_up low) (append-nil (keys c)) ∙ first
ranges_up keys low [] (c ∷ d ∷ cs) up same ranges each = absurd (omega arith)
ranges_up keys low (high ∷ lows) (c ∷ cs) up same ranges each =
    let parts = and_parts _ _ ranges in
    let first = and_parts _ _ (and_parts _ _ parts.0).1 in
    let order = head_less low high lows up in
    let less = order.0 in
    up_append low high (keys c) (flat_map keys cs) (omega arith) (up_any 0 low (keys c) each.0 first.0) first.1
    (ranges_up keys high lows cs order.1 (omega arith) parts.1 each.1)

-- a number in lists in a row
among_flat_map : (f : ℕ → List ℕ) (q t : ℕ) (xs : List ℕ) → is_among t xs ≡ true → is_among q (f t) ≡ true → is_among q (flat_map f xs) ≡ true
among_flat_map f q t [] among own = absurd (both_ways _ refl among)
among_flat_map f q t (x ∷ xs) among own =
    list_any-append (λ y. nat_eq y q) (f x) (flat_map f xs)
    ∙ elim (or_cases (nat_eq x t) (is_among t xs) among) [
      | inl same ↦ or_left (is_among q (f x)) _ (ap (λ (s : ℕ). is_among q (f s)) (eqb-true x t same) ∙ own)
      | inr later ↦ or_right (is_among q (f x)) _ (among_flat_map f q t xs later own)
    ]

from_flat_map : (f : ℕ → List ℕ) (q : ℕ) (xs : List ℕ) → is_among q (flat_map f xs) ≡ true → (t : ℕ) × (is_among t xs ≡ true) × (is_among q (f t) ≡ true)
from_flat_map f q [] among = absurd (both_ways _ refl among)
from_flat_map f q (x ∷ xs) among = elim (or_cases (is_among q (f x)) (is_among q (flat_map f xs)) (sym (list_any-append (λ y. nat_eq y q) (f x) (flat_map f xs)) ∙ among)) [
  | inl first ↦ (x, or_left (nat_eq x x) _ (eq-eqb x x refl), first)
  | inr later ↦ let rest = from_flat_map f q xs later in (rest.0, or_right (nat_eq x rest.0) _ rest.1, rest.2)
]

among_from : (q a n : ℕ) → a ≤ q → q < a + n → is_among q (range_with_len a n) ≡ true
among_from q a zero low high = absurd (omega arith)
among_from q a (suc n) low high = elim (cases_eq a q) [
  | inl same ↦ or_left (nat_eq a q) _ (eq-eqb a q same)
  | inr ne ↦ or_right (nat_eq a q) _ (among_from q (a + 1) n (omega arith) (omega arith))
]

-- such nodes: each child of one is one too
pub record AreFine (graph : Graph) (image : List (List ℕ)) (nodes : ℕ → Bool) : Type 0 where
  pub within : (p : ℕ) → nodes p ≡ true → (p % 16 < graph.roles) × (p < 16 * graph.nr)
  pub closed : (p q : ℕ) → nodes p ≡ true → is_among q (children graph image p) ≡ true → nodes q ≡ true
  pub shallow : (p : ℕ) → nodes p ≡ true → has_chain (children graph image) 64 p ≡ false
  pub ranged : (p : ℕ) → nodes p ≡ true → is_inner_pair graph image p ≡ true → is_in_range graph image p ≡ true

module _ (graph : Graph) (image : List (List ℕ)) (nodes : ℕ → Bool) (lawful : IsLawful graph) (fine : AreFine graph image nodes) where
  -- the keys of a node, and none of other pairs
  some_keys : ℕ → List ℕ
  some_keys p = cond (nodes p) (own_keys graph image p) []

  all_keys : List ℕ
  all_keys = flat_map some_keys (range_with_len 0 (16 * graph.nr))

  few_keys : (p : ℕ) (b : Bool) → nodes p ≡ b → length (cond b (own_keys graph image p) []) ≤ 338
  few_keys p true e = (lawful.each (role_of p) (block_of p) (block_at image (block_of p)) (fine.within p e).0).key_number
  few_keys p false e = omega arith

  all_few : length all_keys ≤ 16 * graph.nr * 338
  unfolding some_keys all_keys
  all_few =
      let most = length-flat_map some_keys 338 (λ p. few_keys p (nodes p) refl) (range_with_len 0 (16 * graph.nr)) in
      let number = length-range_with_len 0 (16 * graph.nr) in
      subst (λ (n : ℕ). length (flat_map some_keys (range_with_len 0 (16 * graph.nr))) ≤ n * 338) number most

  own_among : (p q : ℕ) → nodes p ≡ true → is_among q (own_keys graph image p) ≡ true → is_among q all_keys ≡ true
  unfolding some_keys all_keys
  own_among p q node own =
      among_flat_map some_keys q p (range_with_len 0 (16 * graph.nr)) (among_from p 0 (16 * graph.nr) (omega arith) (let small = (fine.within p node).1 in omega arith))
      (ap (λ (b : Bool). is_among q (cond b (own_keys graph image p) [])) node ∙ own)

  only_leaf : (b : Bool) (own : List ℕ) (q : ℕ) → is_among q (cond b [] own) ≡ true → is_among q own ≡ true
  only_leaf true own q among = absurd (both_ways false refl among)
  only_leaf false own q among = among

  inner_cases : (b : Bool) (later own : List ℕ) (q : ℕ) → is_among q (cond b later own) ≡ true → (is_among q later ≡ true) ⊎ (is_among q own ≡ true)
  inner_cases true later own q among = inl among
  inner_cases false later own q among = inr among

  -- what stands below a node is among the keys of all nodes
  below_each : (ys : List ℕ) → ((p q : ℕ) → nodes p ≡ true → is_among q (own_keys graph image p) ≡ true → is_among q ys ≡ true)
      → (j p q : ℕ) → nodes p ≡ true → is_among q (gathered (is_inner_pair graph image) (children graph image) (own_keys graph image) j p) ≡ true
      → is_among q ys ≡ true
  unfolding gathered
  below_each ys own zero p q node among = own p q node (only_leaf (is_inner_pair graph image p) (own_keys graph image p) q among)
  below_each ys own (suc j) p q node among =
      elim (inner_cases (is_inner_pair graph image p) (flat_map (gathered (is_inner_pair graph image) (children graph image) (own_keys graph image) j) (children graph image p)) (own_keys graph image p) q among) [
        | inl later ↦
            let one = from_flat_map (gathered (is_inner_pair graph image) (children graph image) (own_keys graph image) j) q (children graph image p) later in
            below_each ys own j one.0 q (fine.closed p one.0 node one.1) one.2
        | inr itself ↦ own p q node itself
      ]

  all_above_zero : (xs : List ℕ) → list_all (λ k. not (nat_lt k 0)) xs ≡ true
  all_above_zero [] = refl
  all_above_zero (x ∷ xs) = and_from (not (nat_lt x 0)) (list_all (λ k. not (nat_lt k 0)) xs) (ap not (le-ltb x 0 (omega arith))) (all_above_zero xs)

  -- the laws of a node's block
  laws_at : (p : ℕ) → nodes p ≡ true → KeepsLaws graph (role_of p) (block_of p) (block_at image (block_of p))
  laws_at p node =
      lawful.each (role_of p) (block_of p) (block_at image (block_of p))
      (fine.within p node).0

  as_many : (p : ℕ) → nodes p ≡ true → is_inner_pair graph image p ≡ true → length (own_keys graph image p) ≡ length (children graph image p)
  unfolding children next
  as_many p node e =
      (laws_at p node).inner_keys e
      ∙ (sym (length-map {A = Edge} {B = ℕ} (edges_of graph image p) (λ edge. pair edge.block edge.role))
      ∙ ap (λ (x : Bool). length (cond x (map (λ (edge : Edge). pair edge.block edge.role) (edges_of graph image p)) [])) (sym e))

  keys_of_step : (p : ℕ) → nodes p ≡ true
      → keys_below graph image p ≡ cond (is_inner_pair graph image p) (flat_map (keys_below graph image) (children graph image p)) (own_keys graph image p)
  unfolding keys_below
  keys_of_step p node = gathered_step (is_inner_pair graph image) (children graph image) (own_keys graph image) 63 p (fine.shallow p node)

  inner_up : (lows : List ℕ) (cs : List ℕ) → is_ascending lows ≡ true → 1 ≤ length lows → length lows ≡ length cs
      → are_children_in_range lows (map (keys_below graph image) cs) ≡ true → AllByRecursion (λ c. is_up 0 (keys_below graph image c) ≡ true) cs
      → is_up 0 (flat_map (keys_below graph image) cs) ≡ true
  inner_up [] cs up some same ranges each = absurd (omega arith)
  inner_up (low ∷ lows) cs up some same ranges each =
      up_lower 0 low (flat_map (keys_below graph image) cs) (omega arith) (ranges_up (keys_below graph image) low lows cs up same ranges each)

  ranges_of : (p : ℕ) → is_in_range graph image p ≡ true → are_children_in_range (own_keys graph image p) (map (keys_below graph image) (children graph image p)) ≡ true
  unfolding is_in_range
  ranges_of p e = e

  below_up : (j p : ℕ) → nodes p ≡ true → has_chain (children graph image) j p ≡ false → is_up 0 (keys_below graph image p) ≡ true
  below_up zero p node ends = absurd (both_ways _ ends (chain_none (children graph image) p))
  below_up (suc j) p node ends =
      ap (is_up 0) (keys_of_step p node)
      ∙ elim (cases_Bool (is_inner_pair graph image p)) [
        | inl e ↦
            ap (λ (x : Bool). is_up 0 (cond x (flat_map (keys_below graph image) (children graph image p)) (own_keys graph image p))) e
            ∙ inner_up (own_keys graph image p) (children graph image p) (laws_at p node).ascending ((laws_at p node).inner_some e) (as_many p node e)
            (ranges_of p (fine.ranged p node e))
            (all_among (λ c. is_up 0 (keys_below graph image c) ≡ true) (children graph image p)
            (λ c among. below_up j c (fine.closed p c node among) (ends_below (children graph image) j p c ends among)))
        | inr e ↦
            ap (λ (x : Bool). is_up 0 (cond x (flat_map (keys_below graph image) (children graph image p)) (own_keys graph image p))) e
            ∙ up_ascending 0 (own_keys graph image p) (laws_at p node).ascending (all_above_zero (own_keys graph image p))
      ]

  -- so the count of what stands below a node is exact
  among_keys : (p q : ℕ) → nodes p ≡ true → is_among q (keys_below graph image p) ≡ true → is_among q all_keys ≡ true
  unfolding keys_below
  among_keys p q node among = below_each all_keys own_among 63 p q node among

  pub exact_of : (p : ℕ) → nodes p ≡ true → capped (length (keys_below graph image p)) ≡ length (keys_below graph image p)
  exact_of p node =
      let fewer = up_fewer 0 (keys_below graph image p) all_keys (below_up 64 p node (fine.shallow p node)) (λ q among. among_keys p q node among) in
      let few = all_few in
      let blocks = lawful.few_blocks in
      omega arith

  -- where all nodes have one role, each block has the keys of one node at the most
  module _ (role : ℕ) (one_role : (p : ℕ) → nodes p ≡ true → role_of p ≡ role) where
    keys_in_role : List ℕ
    keys_in_role = flat_map (λ b. some_keys (pair b role)) (range_with_len 0 graph.nr)

    own_in_role : (p q : ℕ) → nodes p ≡ true → is_among q (own_keys graph image p) ≡ true → is_among q keys_in_role ≡ true
    unfolding some_keys keys_in_role
    own_in_role p q node own =
        let small = (fine.within p node).1 in
        let same : p ≡ pair (block_of p) role = let r = one_role p node in omega arith in
        among_flat_map (λ b. some_keys (pair b role)) q (block_of p) (range_with_len 0 graph.nr) (among_from (block_of p) 0 graph.nr (omega arith) (omega arith))
        (subst (λ (t : ℕ). is_among q (some_keys t) ≡ true) same (ap (λ (b : Bool). is_among q (cond b (own_keys graph image p) [])) node ∙ own))

    few_in_role : length keys_in_role ≤ graph.nr * 338
    unfolding some_keys keys_in_role
    few_in_role =
        let most = length-flat_map (λ b. some_keys (pair b role)) 338 (λ b. few_keys (pair b role) (nodes (pair b role)) refl) (range_with_len 0 graph.nr) in
        let number = length-range_with_len 0 graph.nr in
        subst (λ (n : ℕ). length (flat_map (λ b. some_keys (pair b role)) (range_with_len 0 graph.nr)) ≤ n * 338) number most

    pub few_of : (p : ℕ) → nodes p ≡ true → length (keys_below graph image p) ≤ 338 * graph.nr
    unfolding keys_below
    few_of p node =
        let fewer = up_fewer 0 (keys_below graph image p) keys_in_role (below_up 64 p node (fine.shallow p node))
        (λ q among. below_each keys_in_role own_in_role 63 p q node among) in
        let few = few_in_role in
        omega arith
