-- What a node turns out to be is right.
use Rattle.std.proofs.Common.{◌≡◌, ◌≢◌, inl, inr, ℕ, ◌+◌, ◌<◌, true, false, cond, nat_eq, List, [], ◌∷◌, refl, sym, ◌∙◌, ap, subst, arith, eq-eqb, ◌≤◌, Bool, ◌&&◌, ◌||◌, not, nat_lt, map}
use Rattle.std.proofs.lemmas.Bool.{cases_Bool, or_cases, or_left, or_right, or_parts, eqb-true, both_ways, cases_eq, ne_eqb, cond-true, cond-false, and_parts, eqb-false, lt-ltb, ltb-true, ltb-false, not-true, cases_lt}
use Rattle.std.specs.List.{list_all}
use Rattle.pd_kinds.specs.Graph.{Graph, block_at, pair, block_of, own_keys, is_inner_pair, children, keys_below, is_in_range}
use Rattle.pd_kinds.specs.Lawful.{KeepsLaws}
use Rattle.pd_graph.specs.declared.notes.Note.{Note}
use Rattle.pd_graph.specs.Notes.{no_note, ends_note}
use Rattle.pd_graph.proofs.BitLemmas.{pair_block}
use Rattle.pd_settle.specs.Looking.{open_note, blocks_of_edges, is_low, is_high, IsVerdict, outside, leaf, deep, stray, shallow}
use Rattle.pd_settle.proofs.ChainLemmas.{is_among, all_among, among_passes, one_passes}
use Rattle.pd_settle.specs.Notes.{keys_note, one_step_higher, joined, are_notes_in_range, IsNoted}
use Rattle.pd_settle.specs.Settled.{is_well, is_good_node, AreSettleable, IsGoodNote, IsOrdering}
use Rattle.pd_settle.proofs.GoodLemmas.{good_from, good_above, chain_bad, child_bad, itself_bad, well_leaf, well_inner, stray_bad, noted_leaf, noted_inner, ranged_inner, noted_shallow, deep_above, highest_is_long, IsLow}
use Rattle.pd_settle.proofs.KeyLemmas.{joined_within, among_within, ends_are_noted}
use Rattle.pd_settle.proofs.NodeLemmas.{from_map, joined_map, ranges_map, inner_at, keys_at, children_none, children_at, child_at, IsTrail, trail_is_deep}

-- The blocks on the stack, from the top down, each linked to the one below it.

-- the link stands for the first block of the list, whose note links to the second, and so on
abbrev pub IsStack : (ℕ → Note) → ℕ → ℕ → List ℕ → Type 0
IsStack notes nr link [] = link ≡ 0
IsStack notes nr link (b ∷ rest) =
    (link ≡ b + 1) × (b < nr) × ((notes b).height ≡ 66) × (is_among b rest ≡ false) × IsStack notes nr (notes b).below rest

-- only those are on it
pub stacked_is_open : (notes : ℕ → Note) (nr link c : ℕ) (stack : List ℕ) → IsStack notes nr link stack → is_among c stack ≡ true → (notes c).height ≡ 66
stacked_is_open notes nr link c [] on among = absurd (both_ways _ refl among)
stacked_is_open notes nr link c (b ∷ rest) on among = elim (or_cases (nat_eq b c) (is_among c rest) among) [
  | inl same ↦ ap (λ (d : ℕ). (notes d).height) (sym (eqb-true b c same)) ∙ on.2
  | inr later ↦ stacked_is_open notes nr (notes b).below c rest on.4 later
]

pub closed_is_off : (notes : ℕ → Note) (nr link c : ℕ) (stack : List ℕ) → IsStack notes nr link stack → (notes c).height ≢ 66 → is_among c stack ≡ false
closed_is_off notes nr link c stack on closed = elim (cases_Bool (is_among c stack)) [
  | inl among ↦ absurd (closed (stacked_is_open notes nr link c stack on among))
  | inr off ↦ off
]

-- one note was replaced
pub record Changes (x : ℕ) (note : Note) (old new : ℕ → Note) : Type 0 where
  pub notes : (c : ℕ) → new c ≡ cond (nat_eq c x) note (old c)

pub changed_here : (x : ℕ) (note : Note) (old new : ℕ → Note) → Changes x note old new → new x ≡ note
changed_here x note old new changes = changes.notes x ∙ cond-true (nat_eq x x) note (old x) (eq-eqb x x refl)

pub changed_there : (x : ℕ) (note : Note) (old new : ℕ → Note) (c : ℕ) → Changes x note old new → c ≢ x → new c ≡ old c
changed_there x note old new c changes ne = changes.notes c ∙ cond-false (nat_eq c x) note (old c) (ne_eqb c x ne)

-- a block that isn't on the stack changes
pub stack_kept : (x : ℕ) (note : Note) (old new : ℕ → Note) (nr link : ℕ) (stack : List ℕ) → Changes x note old new → is_among x stack ≡ false
    → IsStack old nr link stack → IsStack new nr link stack
stack_kept x note old new nr link [] changes off on = on
stack_kept x note old new nr link (b ∷ rest) changes off on =
    let parts = or_parts (nat_eq b x) (is_among x rest) off in
    let same = changed_there x note old new b changes (λ e. both_ways _ parts.0 (eq-eqb b x e)) in (
      on.0,
      on.1,
      ap (λ (n : Note). n.height) same ∙ on.2,
      on.3,
      subst (λ (l : ℕ). IsStack new nr l rest) (ap (λ (n : Note). n.below) (sym same)) (stack_kept x note old new nr (old b).below rest changes parts.1 on.4),
    )

-- a block is put on top
pub stack_opened : (x link : ℕ) (old new : ℕ → Note) (nr : ℕ) (stack : List ℕ) → Changes x (open_note link) old new → x < nr → (old x).height ≡ 0
    → IsStack old nr link stack → IsStack new nr (x + 1) (x ∷ stack)
stack_opened x link old new nr stack changes small unknown on =
    let off = closed_is_off old nr link x stack on (λ e. absurd (omega arith)) in
    let here = changed_here x (open_note link) old new changes in (
      refl,
      small,
      ap (λ (n : Note). n.height) here,
      off,
      subst (λ (l : ℕ). IsStack new nr l stack) (ap (λ (n : Note). n.below) (sym here)) (stack_kept x (open_note link) old new nr link stack changes off on),
    )

-- the top is settled
pub stack_closed : (b link : ℕ) (note : Note) (old new : ℕ → Note) (nr : ℕ) (rest : List ℕ) → Changes b note old new
    → IsStack old nr link (b ∷ rest) → IsStack new nr (old b).below rest
stack_closed b link note old new nr rest changes on = stack_kept b note old new nr (old b).below rest changes on.3 on.4

-- all that are open are on the stack
pub record AreStacked (notes : ℕ → Note) (stack : List ℕ) : Type 0 where
  pub all : (c : ℕ) → (notes c).height ≡ 66 → is_among c stack ≡ true

pub all_opened : (x link : ℕ) (old new : ℕ → Note) (stack : List ℕ) → Changes x (open_note link) old new → AreStacked old stack → AreStacked new (x ∷ stack)
all_opened x link old new stack changes are = record {
  all = λ c is_open. elim (cases_eq c x) [
    | inl same ↦ or_left (nat_eq x c) _ (eq-eqb x c (sym same))
    | inr ne ↦ or_right (nat_eq x c) _ (are.all c (ap (λ (n : Note). n.height) (sym (changed_there x (open_note link) old new c changes ne)) ∙ is_open))
  ];
}

pub all_closed : (b : ℕ) (note : Note) (old new : ℕ → Note) (rest : List ℕ) → Changes b note old new → note.height ≢ 66 → AreStacked old (b ∷ rest) → AreStacked new rest
all_closed b note old new rest changes closed are = record {
  all = λ c is_open. elim (cases_eq c b) [
    | inl same ↦ absurd (closed (ap (λ (n : Note). n.height) (sym (changed_here b note old new changes)) ∙ (ap (λ (d : ℕ). (new d).height) (sym same) ∙ is_open)))
    | inr ne ↦ elim (or_cases (nat_eq b c) _ (are.all c (ap (λ (n : Note). n.height) (sym (changed_there b note old new c changes ne)) ∙ is_open))) [
      | inl first ↦ absurd (ne (sym (eqb-true b c first)))
      | inr later ↦ later
    ]
  ];
}

pub low_height : (note : Note) → is_low note ≡ true → (1 ≤ note.height) × (note.height < 64)
low_height note low =
    let parts = and_parts (not (nat_eq note.height 0)) (nat_lt note.height 64) low in
    let some = eqb-false note.height 0 (not-true (nat_eq note.height 0) parts.0) in
    let less = ltb-true note.height 64 parts.1 in
    (omega arith, less)

-- the height of a settled node
pub verdict_height : (nr : ℕ) (strict inner : Bool) (notes : ℕ → Note) (lows cs : List ℕ) (note : Note) → IsVerdict nr strict inner notes lows cs note
    → (1 ≤ note.height) × (note.height ≤ 65)
verdict_height nr strict inner notes lows cs note (outside e out same) = let h = ap (λ (n : Note). n.height) same in (omega arith, omega arith)
verdict_height nr strict inner notes lows cs note (leaf e same) = let h = ap (λ (n : Note). n.height) same in (omega arith, omega arith)
verdict_height nr strict inner notes lows cs note (deep e over same) = let h = ap (λ (n : Note). n.height) same in (omega arith, omega arith)
verdict_height nr strict inner notes lows cs note (stray e asked out same) = let h = ap (λ (n : Note). n.height) same in (omega arith, omega arith)
verdict_height nr strict inner notes lows cs note (shallow e is_shallow allowed) =
    let h = ap (λ (n : Note). n.height) is_shallow.joins in
    let few = joined_within notes 63 cs no_note (omega arith)
    (all_among (λ c. (notes c).height ≤ 63) cs (λ c among. let l = (low_height (notes c) (among_passes (λ d. is_low (notes d)) c cs is_shallow.low among)).1 in omega arith)) in
    (omega arith, omega arith)

-- the verdict is right
pub record IsRight (graph : Graph) (image : List (List ℕ)) (fit : ℕ → Bool) (strict : Bool) (p : ℕ) (note : Note) : Type 0 where
  pub good : note.height ≤ 64 → IsGoodNote graph image fit strict p note
  pub bad : 65 ≤ note.height → is_good_node graph image fit strict p ≡ false

-- a leaf's note is right
pub leaf_right : (graph : Graph) (image : List (List ℕ)) (fit : ℕ → Bool) (strict : Bool) (b role : ℕ) (block : List ℕ) → role < 16 → block_at image b ≡ block → fit b ≡ true
    → KeepsLaws graph role b block → graph.is_inner role b block ≡ false → (note : Note) → note ≡ ends_note (graph.keys role b block)
    → IsGoodNote graph image fit strict (pair b role) note
unfolding is_good_node
leaf_right graph image fit strict b role block within found is_fit laws e note ends =
    let same = ends ∙ ends_are_noted (graph.keys role b block) laws.ascending laws.key_number in
    let keys_are = keys_at graph image b role block within found in
    let none = children_none graph image b role block within found e in
    let is_leaf = inner_at graph image b role block within found ∙ e in
    record {
      good =
          good_from (is_well graph image fit strict) (children graph image) 63 (pair b role)
          (well_leaf (fit (block_of (pair b role))) strict (is_inner_pair graph image (pair b role)) (is_in_range graph image (pair b role))
          (ap fit (pair_block b role within) ∙ is_fit) is_leaf)
          (λ q among. absurd (both_ways _ (ap (is_among q) none) among));
      noted =
          subst (λ (n : Note). IsNoted (is_inner_pair graph image) (children graph image) (own_keys graph image) (pair b role) n)
          (ap (λ (ks : List ℕ). keys_note ks 1 true) keys_are ∙ sym same)
          (noted_leaf (is_inner_pair graph image) (children graph image) (own_keys graph image) (pair b role) is_leaf none);
      ranged =
          ap (λ (n : Note). n.in_range) same
          ∙ sym (ap (λ (x : Bool). not x || is_in_range graph image (pair b role)) is_leaf);
    }

module _ (graph : Graph) (image : List (List ℕ)) (nodes fit : ℕ → Bool) (strict : Bool) (b role : ℕ) (block : List ℕ) (within : role < 16) (found : block_at image b ≡ block)
    (laws : KeepsLaws graph role b block) (settleable : AreSettleable graph image nodes fit) (node : nodes (pair b role) ≡ true) (is_fit : fit b ≡ true)
    (notes : ℕ → Note) (ordering : IsOrdering graph image nodes fit strict notes) where
  -- a child of the node is a node
  child_node : graph.is_inner role b block ≡ true → (c : ℕ) → is_among c (blocks_of_edges (graph.edges role b block)) ≡ true → nodes (pair c role) ≡ true
  child_node is_inner c among = settleable.closed (pair b role) (pair c role) node (child_at graph image b role block within found laws is_inner c among)

  -- a child that is settled and low
  low_child : graph.is_inner role b block ≡ true → list_all (λ c. is_low (notes c)) (blocks_of_edges (graph.edges role b block)) ≡ true
      → (q : ℕ) → is_among q (children graph image (pair b role)) ≡ true
      → IsGoodNote graph image fit strict q (notes (block_of q)) × ((notes (block_of q)).height < 64)
  low_child is_inner all q among =
      let cs = blocks_of_edges (graph.edges role b block) in
      let one = from_map (λ c. pair c role) q cs (ap (is_among q) (sym (children_at graph image b role block within found laws is_inner)) ∙ among) in
      let c = one.0 in
      let heights = low_height (notes c) (among_passes (λ d. is_low (notes d)) c cs all one.1) in
      let same : block_of q ≡ c = ap block_of one.2 ∙ pair_block c role within in
      let height : (notes (block_of q)).height ≡ (notes c).height = ap (λ (d : ℕ). (notes d).height) same in
      let low = heights.0 in
      let less = heights.1 in
      (ordering.good q (settleable.closed (pair b role) q node among) (omega arith) (omega arith), omega arith)

  low_note : graph.is_inner role b block ≡ true → list_all (λ c. is_low (notes c)) (blocks_of_edges (graph.edges role b block)) ≡ true
      → (q : ℕ) → is_among q (children graph image (pair b role)) ≡ true
      → IsLow (is_inner_pair graph image) (children graph image) (own_keys graph image) q (notes (block_of q))
  low_note is_inner all q among = let child = low_child is_inner all q among in record { noted = child.0.noted; low = child.1 }

  -- a child that is high makes the node bad
  high_child : graph.is_inner role b block ≡ true → (rest : List ℕ) → IsTrail graph image nodes role (b ∷ rest) → AreStacked notes (b ∷ rest)
      → (c : ℕ) → is_among c (blocks_of_edges (graph.edges role b block)) ≡ true → 64 ≤ (notes c).height
      → is_good_node graph image fit strict (pair b role) ≡ false
  unfolding is_good_node
  high_child is_inner rest trail are c among high =
      let well = is_well graph image fit strict in
      let down = children graph image in
      let is_child = child_node is_inner c among in
      let leads = child_at graph image b role block within found laws is_inner c among in
      let same : block_of (pair c role) ≡ c = pair_block c role within in
      let height : (notes (block_of (pair c role))).height ≡ (notes c).height = ap (λ (d : ℕ). (notes d).height) same in
      elim (cases_eq (notes c).height 66) [
        | inl is_open ↦
            chain_bad well down 64 (pair b role)
            (deep_above (is_inner_pair graph image) down (own_keys graph image) (pair b role) (pair c role) leads
            (trail_is_deep graph image nodes role b c 63 rest trail (are.all c is_open) leads))
        | inr closed ↦ elim (cases_lt (notes c).height 65) [
          | inl less ↦
              chain_bad well down 64 (pair b role)
              (deep_above (is_inner_pair graph image) down (own_keys graph image) (pair b role) (pair c role) leads
              (highest_is_long (is_inner_pair graph image) down (own_keys graph image) (pair c role) (notes (block_of (pair c role)))
              (ordering.good (pair c role) is_child (omega arith) (omega arith)).noted (omega arith)))
          | inr more ↦
              child_bad well down 63 (pair b role) (pair c role) leads (ordering.bad (pair c role) is_child (omega arith) (λ e. closed (sym height ∙ e)))
        ]
      ]

  -- the ranges of the children, by their notes
  ranged : (by_pair : ℕ → Note) → ((q : ℕ) → is_among q (children graph image (pair b role)) ≡ true
      → IsLow (is_inner_pair graph image) (children graph image) (own_keys graph image) q (by_pair q))
      → children graph image (pair b role) ≡ map (λ c. pair c role) (blocks_of_edges (graph.edges role b block))
      → own_keys graph image (pair b role) ≡ graph.keys role b block → ((c : ℕ) → by_pair (pair c role) ≡ notes c)
      → is_in_range graph image (pair b role) ≡ are_notes_in_range notes (graph.keys role b block) (blocks_of_edges (graph.edges role b block))
  unfolding is_in_range keys_below
  ranged by_pair each kids keys_are same_notes =
      ranged_inner (is_inner_pair graph image) (children graph image) (own_keys graph image) by_pair (pair b role) (own_keys graph image (pair b role)) each
      ∙ (ap (λ (lows : List ℕ). are_notes_in_range by_pair lows (children graph image (pair b role))) keys_are
      ∙ (ap (are_notes_in_range by_pair (graph.keys role b block)) kids
      ∙ ranges_map (λ c. pair c role) by_pair notes (graph.keys role b block) (blocks_of_edges (graph.edges role b block)) same_notes))

  range_of : graph.is_inner role b block ≡ true → list_all (λ c. is_low (notes c)) (blocks_of_edges (graph.edges role b block)) ≡ true
      → is_in_range graph image (pair b role) ≡ are_notes_in_range notes (graph.keys role b block) (blocks_of_edges (graph.edges role b block))
  range_of is_inner all =
      ranged (λ q. notes (block_of q)) (low_note is_inner all) (children_at graph image b role block within found laws is_inner) (keys_at graph image b role block within found)
      (λ c. ap notes (pair_block c role within))

  fit_here : fit (block_of (pair b role)) ≡ true
  fit_here = ap fit (pair_block b role within) ∙ is_fit

  inner_is : is_inner_pair graph image (pair b role) ≡ graph.is_inner role b block
  inner_is = inner_at graph image b role block within found

  shallow_right : (note : Note) → graph.is_inner role b block ≡ true → list_all (λ c. is_low (notes c)) (blocks_of_edges (graph.edges role b block)) ≡ true
      → note ≡ one_step_higher (joined notes no_note (blocks_of_edges (graph.edges role b block))) note.in_range
      → note.in_range ≡ are_notes_in_range notes (graph.keys role b block) (blocks_of_edges (graph.edges role b block))
      → (strict && not note.in_range) ≡ false → IsGoodNote graph image fit strict (pair b role) note
  unfolding is_good_node
  shallow_right note e all joins ranges allowed =
      let cs = blocks_of_edges (graph.edges role b block) in
      let down = children graph image in
      let by_pair : ℕ → Note = λ q. notes (block_of q) in
      let kids = children_at graph image b role block within found laws e in
      let sums : joined by_pair no_note (down (pair b role)) ≡ joined notes no_note cs =
      ap (joined by_pair no_note) kids ∙ joined_map (λ c. pair c role) by_pair notes cs no_note (λ c. ap notes (pair_block c role within)) in
      let noted : IsNoted (is_inner_pair graph image) down (own_keys graph image) (pair b role) note =
      subst (λ (n : Note). IsNoted (is_inner_pair graph image) down (own_keys graph image) (pair b role) n)
      (ap (λ (n : Note). one_step_higher n note.in_range) sums ∙ sym joins)
      (noted_inner (is_inner_pair graph image) down (own_keys graph image) by_pair (pair b role) note.in_range (inner_is ∙ e) (low_note e all)) in
      let in_range : is_in_range graph image (pair b role) ≡ note.in_range = range_of e all ∙ sym ranges in
      record {
        good =
            good_above (is_well graph image fit strict) down 63 (pair b role)
            (well_inner (fit (block_of (pair b role))) strict (is_inner_pair graph image (pair b role)) (is_in_range graph image (pair b role)) fit_here
            (ap (λ (x : Bool). strict && not x) in_range ∙ allowed))
            (noted_shallow (is_inner_pair graph image) down (own_keys graph image) (pair b role) note noted)
            (λ q among. (low_child e all q among).0.good);
        noted = noted;
        ranged =
            sym (ap (λ (x : Bool). not x || is_in_range graph image (pair b role)) (inner_is ∙ e) ∙ in_range);
      }

  stray_right : graph.is_inner role b block ≡ true → strict ≡ true → list_all (λ c. is_low (notes c)) (blocks_of_edges (graph.edges role b block)) ≡ true
      → are_notes_in_range notes (graph.keys role b block) (blocks_of_edges (graph.edges role b block)) ≡ false → is_good_node graph image fit strict (pair b role) ≡ false
  unfolding is_good_node
  stray_right e asked all out =
      itself_bad (is_well graph image fit strict) (children graph image) 63 (pair b role)
      (stray_bad (fit (block_of (pair b role))) strict (is_inner_pair graph image (pair b role)) (is_in_range graph image (pair b role)) asked (inner_is ∙ e) (range_of e all ∙ out))

  pub verdict_right : (rest : List ℕ) → IsTrail graph image nodes role (b ∷ rest) → AreStacked notes (b ∷ rest) → (note : Note)
      → IsVerdict graph.nr strict (graph.is_inner role b block) notes (graph.keys role b block) (blocks_of_edges (graph.edges role b block)) note
      → IsRight graph image fit strict (pair b role) note
  verdict_right rest trail are note (outside e out same) =
      let one = one_passes (λ c. not (nat_lt c graph.nr)) (blocks_of_edges (graph.edges role b block)) out.outside in
      let below = among_within graph (graph.edges role b block) one.0 laws.within one.1 in
      absurd (both_ways _ (not-true (nat_lt one.0 graph.nr) one.2) (lt-ltb one.0 graph.nr below))
  verdict_right rest trail are note (leaf e same) =
      let h = ap (λ (n : Note). n.height) same in
      record {
        good = λ few. leaf_right graph image fit strict b role block within found is_fit laws e note same;
        bad = λ many. absurd (omega arith);
      }
  verdict_right rest trail are note (deep e over same) =
      let one = one_passes (λ c. is_high (notes c)) (blocks_of_edges (graph.edges role b block)) over.high in
      let high = ltb-false (notes one.0).height 64 (not-true (nat_lt (notes one.0).height 64) one.2) in
      let height = ap (λ (n : Note). n.height) same in
      record {
        good = λ few. absurd (omega arith);
        bad = λ many. high_child e rest trail are one.0 one.1 high;
      }
  verdict_right rest trail are note (stray e asked out same) =
      let height = ap (λ (n : Note). n.height) same in
      record {
        good = λ few. absurd (omega arith);
        bad = λ many. stray_right e asked out.low out.ranges;
      }
  verdict_right rest trail are note (shallow e is_shallow allowed) =
      let right = shallow_right note e is_shallow.low is_shallow.joins is_shallow.ranges allowed.allowed in
      let height = right.noted.high in
      record {
        good = λ few. right;
        bad = λ many. absurd (omega arith);
      }
