-- The settling of all blocks in one role.
use Rattle.std.proofs.Common.{◌≡◌, ◌≢◌, inl, inr, ℕ, suc, ◌+◌, ◌-◌, ◌<◌, ◌≤◌, Bool, true, false, ◌&&◌, not, cond, nat_eq, nat_lt, List, refl, sym, ◌∙◌, ap, subst, arith, eq-eqb, ◌⊎◌, ◌*◌, length}
use Rattle.std.proofs.lemmas.Bool.{cases_lt, cases_eq, ne_eqb, and_parts, and_from, both_ways, eqb-true, ltb-true, lt-ltb, le-ltb, not-true, cases_Bool, eqb-false}
use Rattle.pd_kinds.specs.Graph.{Graph, block_at, pair, block_of, role_of, own_keys, is_inner_pair, children, is_in_range, keys_below, is_reached, nodes}
use Rattle.pd_kinds.specs.Lawful.{IsLawful}
use Rattle.pd_graph.specs.declared.notes.Note.{Note}
use Rattle.pd_graph.specs.declared.notes.Notes.{Notes}
use Rattle.pd_graph.specs.Notes.{no_note, note_in}
use Rattle.pd_graph.proofs.BitLemmas.{pair_block, pair_role}
use Rattle.pd_graph.specs.Walk.{IsLeafNote, AreLeavesNoted, weigh}
use Rattle.pd_graph.proofs.Weights.{length_weighs, wider_weight}
use Rattle.pd_settle.specs.Settled.{is_well, is_good_node, AreSettleable, IsGoodNote, IsOrdering, IsClosed, KeepsKnown, AreSettled, AreFit, AreSettledIn, is_node, IsClean, is_known, is_settled, steps, inner_nodes}
use Rattle.pd_settle.specs.Notes.{IsNoted}
use Rattle.pd_settle.specs.Looking.{bad_note}
use Rattle.pd_settle.proofs.ChainLemmas.{is_among, chain_by, longer_chain}
use Rattle.pd_settle.proofs.GoodLemmas.{good_child, good_ends, good_well, itself_bad, unfit_bad, well_ranged}
use Rattle.pd_settle.proofs.NodeLemmas.{child_of, role_of_child, child_within, reached_within, inner_at, settleable_of}
use Rattle.pd_settle.proofs.FineLemmas.{AreFine, exact_of, few_of}
use Rattle.pd_settle.proofs.SettledLemmas.{all_settled, blocks_from}
use Rattle.pd_settle.proofs.VerdictLemmas.{leaf_right}

-- the nodes: all blocks, in the one role
abbrev pub is_in_role : ℕ → ℕ → ℕ → Bool
is_in_role nr role p = nat_eq (role_of p) role && nat_lt (block_of p) nr

pub in_role : (nr role b : ℕ) → role < 16 → b < nr → is_in_role nr role (pair b role) ≡ true
in_role nr role b within small =
    and_from _ _ (eq-eqb (role_of (pair b role)) role (pair_role b role within))
    (ap (λ (c : ℕ). nat_lt c nr) (pair_block b role within) ∙ lt-ltb b nr small)

parts_of : (nr role p : ℕ) → is_in_role nr role p ≡ true → (role_of p ≡ role) × (block_of p < nr)
parts_of nr role p is_one =
    let parts = and_parts (nat_eq (role_of p) role) (nat_lt (block_of p) nr) is_one in
    (eqb-true (role_of p) role parts.0, ltb-true (block_of p) nr parts.1)

-- a block that is noted at first: as bad, where it isn't fit
noted_first : (x : Bool) (note : Note) → note ≡ cond x bad_note no_note → (note.height ≢ 65 → (x ≡ false) × (note.height ≡ 0)) × (note.height ≢ 66) × (note.in_range ≡ true)
noted_first true note e =
    let h = ap (λ (n : Note). n.height) e in
    ((λ other. absurd (other h)), (λ same. absurd (omega arith)), ap (λ (n : Note). n.in_range) e)
noted_first false note e =
    let h = ap (λ (n : Note). n.height) e in
    ((λ other. (refl, h)), (λ same. absurd (omega arith)), ap (λ (n : Note). n.in_range) e)

bad_first : (x : Bool) (note : Note) → note ≡ cond x bad_note no_note → 1 ≤ note.height → x ≡ true
bad_first true note e low = refl
bad_first false note e low = let h = ap (λ (n : Note). n.height) e in absurd (omega arith)

-- a node is higher than its children
higher_by : (inner : ℕ → Bool) (down own : ℕ → List ℕ) (p q : ℕ) (note below : Note) → is_among q (down p) ≡ true
    → IsNoted inner down own p note → IsNoted inner down own q below → below.height < note.height
higher_by inner down own p q note below among high low = elim (cases_lt below.height note.height) [
  | inl less ↦ less
  | inr more ↦
      let some = low.low in
      absurd (both_ways _ high.ends
      (chain_by down note.height (suc (below.height - 1)) p (omega arith) (longer_chain down (below.height - 1) p q among low.long)))
]

module _ (graph : Graph) (image : List (List ℕ)) (role : ℕ) (fit : ℕ → Bool) (lawful : IsLawful graph) (known : role < graph.roles) where
  within : role < 16
  within = let few = lawful.few_roles in omega arith

  one_role : (p q : ℕ) → is_in_role graph.nr role p ≡ true → is_in_role graph.nr role q ≡ true → block_of p ≡ block_of q → p ≡ q
  one_role p q first second same =
      let a = (parts_of graph.nr role p first).0 in
      let b = (parts_of graph.nr role q second).0 in
      omega arith

  child_in_role : (p q : ℕ) → is_in_role graph.nr role p ≡ true → is_among q (children graph image p) ≡ true → is_in_role graph.nr role q ≡ true
  child_in_role p q is_one among =
      let same = (parts_of graph.nr role p is_one).0 in
      let child = child_of graph image lawful p q among in
      let there : role_of p < graph.roles = omega arith in
      let small = (child_within graph image lawful p q there child.1).1 in
      and_from _ _ (eq-eqb (role_of q) role (role_of_child graph image lawful p q there child.0 child.1 ∙ same)) (lt-ltb (block_of q) graph.nr (omega arith))

  pub role_settleable : AreFit graph image role fit → AreSettleable graph image (is_in_role graph.nr role) fit
  role_settleable are = record {
    alone = one_role;
    sound = λ b r small few is_one is_fit rule.
        let same = sym (pair_role b r few) ∙ (parts_of graph.nr role (pair b r) is_one).0 in
        ap (λ (s : ℕ). graph.bad s b (block_at image b) rule) same ∙ are.sound b small is_fit rule;
    closed = child_in_role;
  }

  -- what holds before a block is settled
  pub first_ordering : (notes : ℕ → Note) → ((c : ℕ) → notes c ≡ cond (nat_lt c graph.nr && not (fit c)) bad_note no_note)
      → IsOrdering graph image (is_in_role graph.nr role) fit true notes
  unfolding is_good_node
  first_ordering notes first = record {
    good = λ p is_p low high.
        let here = noted_first _ (notes (block_of p)) (first (block_of p)) in
        let none = (here.0 (λ e. absurd (omega arith))).1 in
        absurd (omega arith);
    bad = λ p is_p high closed.
        let unfit = (and_parts _ _ (bad_first _ (notes (block_of p)) (first (block_of p)) (omega arith))).1 in
        itself_bad (is_well graph image fit true) (children graph image) 63 p (unfit_bad (fit (block_of p)) _ (not-true (fit (block_of p)) unfit));
    unfit = λ c small unfit.
        ap (λ (n : Note). n.height)
        (first c ∙ (ap (λ (x : Bool). cond (x && not (fit c)) bad_note no_note) (lt-ltb c graph.nr small)
        ∙ ap (λ (x : Bool). cond (not x) bad_note no_note) unfit));
    looked = λ c low.
        let small = ltb-true c graph.nr (and_parts _ _ (bad_first _ (notes c) (first c) low)).0 in
        (role, within, in_role graph.nr role c within small);
    unknown = λ c none. (noted_first _ (notes c) (first c)).2;
  }

  pub first_closed : (notes : ℕ → Note) → ((c : ℕ) → notes c ≡ cond (nat_lt c graph.nr && not (fit c)) bad_note no_note) → IsClosed notes
  first_closed notes first = record { none = λ c is_open. (noted_first _ (notes c) (first c)).1 is_open }

  -- the good nodes are shallow and in range
  good_in_role : ℕ → Bool
  good_in_role p = is_in_role graph.nr role p && is_good_node graph image fit true p

  good_fine : AreFine graph image good_in_role
  unfolding is_good_node good_in_role
  good_fine = record {
    within = λ p good.
        let parts = parts_of graph.nr role p (and_parts _ _ good).0 in
        let same = parts.0 in
        let small = parts.1 in
        (omega arith, omega arith);
    closed = λ p q good among.
        let parts = and_parts _ _ good in
        and_from _ _ (child_in_role p q parts.0 among) (good_child (is_well graph image fit true) (children graph image) 63 p q parts.1 among);
    shallow = λ p good. good_ends (is_well graph image fit true) (children graph image) 64 p (and_parts _ _ good).1;
    ranged = λ p good e.
        well_ranged (fit (block_of p)) (is_inner_pair graph image p) (is_in_range graph image p)
        (good_well (is_well graph image fit true) (children graph image) 63 p (and_parts _ _ good).1) e;
  }

  module _ (notes : Notes) (ordering : IsOrdering graph image (is_in_role graph.nr role) fit true (note_in notes)) (closed : IsClosed (note_in notes))
      (done : (c : ℕ) → c < graph.nr → 1 ≤ (note_in notes c).height) where
    all_in_role : AreSettled graph image (is_in_role graph.nr role) fit true (note_in notes)
    all_in_role =
        all_settled graph image (is_in_role graph.nr role) fit true (note_in notes) ordering closed
        (λ p is_one. done (block_of p) (parts_of graph.nr role p is_one).1)

    good_note : (b : ℕ) → b < graph.nr → is_good_node graph image fit true (pair b role) ≡ true → IsGoodNote graph image fit true (pair b role) (note_in notes b)
    good_note b small good =
        subst (λ (c : ℕ). IsGoodNote graph image fit true (pair b role) (note_in notes c)) (pair_block b role within)
        (all_in_role.good (pair b role) (in_role graph.nr role b within small) good)

    pub settled_in_role : AreSettledIn graph image role fit notes
    unfolding keys_below good_in_role is_good_node
    settled_in_role = record {
      known = done;
      height = λ b small.
          ap (λ (c : ℕ). nat_lt (note_in notes c).height 65) (sym (pair_block b role within))
          ∙ all_in_role.height (pair b role) (in_role graph.nr role b within small);
      least = λ b small good. ap (λ (n : Note). n.least) (good_note b small good).noted.keys;
      greatest = λ b small good. ap (λ (n : Note). n.greatest) (good_note b small good).noted.keys;
      below = λ b small good.
          ap (λ (n : Note). n.below) (good_note b small good).noted.keys
          ∙ exact_of graph image good_in_role lawful good_fine (pair b role) (and_from _ _ (in_role graph.nr role b within small) good);
      few = λ b small good.
          let node : good_in_role (pair b role) ≡ true = and_from _ _ (in_role graph.nr role b within small) good in
          let exact = ap (λ (n : Note). n.below) (good_note b small good).noted.keys ∙ exact_of graph image good_in_role lawful good_fine (pair b role) node in
          let few = few_of graph image good_in_role lawful good_fine role (λ p is. (parts_of graph.nr role p (and_parts _ _ is).0).0) (pair b role) node in
          omega arith;
      above = λ b p small good among.
          let child = child_in_role (pair b role) p (in_role graph.nr role b within small) among in
          higher_by (is_inner_pair graph image) (children graph image) (own_keys graph image) (pair b role) p (note_in notes b) (note_in notes (block_of p)) among
          (good_note b small good).noted
          (all_in_role.good p child (good_child (is_well graph image fit true) (children graph image) 63 (pair b role) p good among)).noted;
    }

-- one block more is ruled out where it isn't fit
pub ruled_more : (fit : ℕ → Bool) (c b : ℕ) (first before now : Note) → before ≡ cond (nat_lt c b && not (fit c)) bad_note first
    → now ≡ cond (nat_eq c b && not (fit b)) bad_note before → now ≡ cond (nat_lt c (b + 1) && not (fit c)) bad_note first
ruled_more fit c b first before now e f = elim (cases_lt c b) [
  | inl less ↦
      f ∙ (ap (λ (x : Bool). cond (x && not (fit b)) bad_note before) (ne_eqb c b (λ same. absurd (omega arith)))
      ∙ (e ∙ ap (λ (x : Bool). cond (x && not (fit c)) bad_note first) (lt-ltb c b less ∙ sym (lt-ltb c (b + 1) (omega arith)))))
  | inr more ↦ elim (cases_eq c b) [
    | inl same ↦
        f ∙ (ap (λ (x : Bool). cond (x && not (fit b)) bad_note before) (eq-eqb c b same)
        ∙ (ap (λ (n : Note). cond (not (fit b)) bad_note n) (e ∙ ap (λ (x : Bool). cond (x && not (fit c)) bad_note first) (le-ltb c b more))
        ∙ (ap (λ (d : ℕ). cond (not (fit d)) bad_note first) (sym same)
        ∙ ap (λ (x : Bool). cond (x && not (fit c)) bad_note first) (sym (lt-ltb c (b + 1) (omega arith))))))
    | inr ne ↦
        f ∙ (ap (λ (x : Bool). cond (x && not (fit b)) bad_note before) (ne_eqb c b ne)
        ∙ (e ∙ ap (λ (x : Bool). cond (x && not (fit c)) bad_note first) (le-ltb c b more ∙ sym (le-ltb c (b + 1) (omega arith)))))
  ]
]

-- one block more is noted
pub done_one : (b : ℕ) (old new : ℕ → Note) → KeepsKnown old new → ((c : ℕ) → c < b → 1 ≤ (old c).height) → 1 ≤ (new b).height → (c : ℕ) → c < b + 1 → 1 ≤ (new c).height
done_one b old new knows done here c small = elim (cases_eq c b) [
  | inl same ↦ let h = ap (λ (d : ℕ). (new d).height) same in omega arith
  | inr ne ↦ knows.known c (done c (omega arith))
]

-- What settling goes out from: the leaves are noted, so that only inner nodes are read.

-- nothing is on the stack
pub closed_low : (notes : ℕ → Note) → ((b : ℕ) → (notes b).height ≤ 1) → IsClosed notes
closed_low notes low = record { none = λ b e. let h = low b in absurd (omega arith) }

-- where the notes are those of a walk, what forgets all but leaves keeps them
pub leaves_kept : (graph : Graph) (image : List (List ℕ)) (old new : ℕ → Note) → ((b : ℕ) → (old b).height ≤ 1 → new b ≡ old b)
    → AreLeavesNoted graph image (is_reached graph image) old → AreLeavesNoted graph image (is_reached graph image) new
leaves_kept graph image old new same noted =
    let low : (b : ℕ) → (old b).height ≤ 1 = λ b. elim (noted.only b) [
      | inl none ↦ let h = ap (λ (n : Note). n.height) none in omega arith
      | inr one ↦ let h = ap (λ (n : Note). n.height) one.same in omega arith
    ] in
    record {
      only = λ b. subst (λ (n : Note). (n ≡ no_note) ⊎ IsLeafNote graph image (is_reached graph image) b n) (sym (same b (low b))) (noted.only b);
      each = λ b role small reached leaf. ap (λ (n : Note). n.height) (same b (low b)) ∙ noted.each b role small reached leaf;
    }

module _ (graph : Graph) (image : List (List ℕ)) (lawful : IsLawful graph) (clean : IsClean graph image) (first : ℕ → Note)
    (noted : AreLeavesNoted graph image (is_reached graph image) first) where
  none_height : (b : ℕ) → first b ≡ no_note → (first b).height ≡ 0
  none_height b e = ap (λ (n : Note). n.height) e

  leaf_height : (b : ℕ) → IsLeafNote graph image (is_reached graph image) b (first b) → (first b).height ≡ 1
  leaf_height b one = ap (λ (n : Note). n.height) one.same

  leaf_node : (b : ℕ) → (one : IsLeafNote graph image (is_reached graph image) b (first b)) → is_node graph image (pair b one.role) ≡ true
  leaf_node b one =
      and_from (is_reached graph image (pair b one.role)) (graph.is_tree (role_of (pair b one.role))) one.passes
      (ap graph.is_tree (pair_role b one.role one.within) ∙ one.leaf.tree)

  leaf_good : (p : ℕ) → is_node graph image p ≡ true → IsLeafNote graph image (is_reached graph image) (block_of p) (first (block_of p))
      → IsGoodNote graph image (λ c. true) false p (first (block_of p))
  leaf_good p node one =
      let b = block_of p in
      let known = (reached_within graph image (pair b one.role) lawful one.passes).0 in
      let same = pair_role b one.role one.within in
      let laws = lawful.each one.role b (block_at image b) (omega arith) in
      let e : p ≡ pair b one.role =
      (settleable_of graph image lawful clean).alone p (pair b one.role) node (leaf_node b one) (sym (pair_block b one.role one.within)) in
      subst (λ (q : ℕ). IsGoodNote graph image (λ c. true) false q (first b)) (sym e)
      (leaf_right graph image (λ c. true) false b one.role (block_at image b) one.within refl refl laws one.leaf.leaf (first b) one.same)

  -- the notes are right
  pub noted_ordering : IsOrdering graph image (is_node graph image) (λ c. true) false first
  noted_ordering = record {
    good = λ p node low high. elim (noted.only (block_of p)) [
      | inl none ↦ let h = none_height (block_of p) none in absurd (omega arith)
      | inr one ↦ leaf_good p node one
    ];
    bad = λ p node high other. elim (noted.only (block_of p)) [
      | inl none ↦ let h = none_height (block_of p) none in absurd (omega arith)
      | inr one ↦ let h = leaf_height (block_of p) one in absurd (omega arith)
    ];
    unfit = λ c small e. absurd (both_ways true e refl);
    looked = λ c low. elim (noted.only c) [
      | inl none ↦ let h = none_height c none in absurd (omega arith)
      | inr one ↦ (one.role, one.within, leaf_node c one)
    ];
    unknown = λ c e. elim (noted.only c) [
      | inl none ↦ ap (λ (n : Note). n.in_range) none
      | inr one ↦ ap (λ (n : Note). n.in_range) one.same
    ];
  }

  -- a leaf that is known counts as settled
  leaf_settled : (c : ℕ) → is_known first c ≡ true → is_settled first c ≡ true
  leaf_settled c e = elim (noted.only c) [
    | inl none ↦ absurd (both_ways (is_known first c) (ap (λ (n : Note). not (nat_eq n.height 0)) none) e)
    | inr one ↦ ap (λ (n : Note). not (nat_eq n.height 0) && not (nat_eq n.height 66)) one.same
  ]

  -- a node that was looked at is an inner one, or was noted before
  inner_or_leaf : (notes : ℕ → Note) → IsOrdering graph image (is_node graph image) (λ c. true) false notes → (c : ℕ) → is_known notes c ≡ true
      → (is_known first c ≡ true) ⊎ ((role : ℕ) × (role < 16) × ((is_reached graph image (pair c role) && is_inner_pair graph image (pair c role)) ≡ true))
  inner_or_leaf notes ordering c e =
      let some = eqb-false (notes c).height 0 (not-true (nat_eq (notes c).height 0) e) in
      let node = ordering.looked c (omega arith) in
      let role = node.0 in
      let within = node.1 in
      let parts = and_parts (is_reached graph image (pair c role)) (graph.is_tree (role_of (pair c role))) node.2 in
      let small = (reached_within graph image (pair c role) lawful parts.0).1 in
      elim (cases_Bool (is_inner_pair graph image (pair c role))) [
        | inl inner ↦ inr (role, within, and_from (is_reached graph image (pair c role)) _ parts.0 inner)
        | inr leaf ↦ inl (ap (λ (h : ℕ). not (nat_eq h 0)) (noted.each c role within parts.0 (record {
          tree = ap graph.is_tree (sym (pair_role c role within)) ∙ parts.1;
          sound = clean.sound c role (omega arith) within parts.0;
          leaf = sym (inner_at graph image c role (block_at image c) within refl) ∙ leaf;
        })))
      ]

  -- so no more steps are made than twice the inner nodes that are reached
  pub inner_steps : (notes : ℕ → Note) → IsOrdering graph image (is_node graph image) (λ c. true) false notes
      → steps graph.nr notes ≤ steps graph.nr first + 2 * length (inner_nodes graph image)
  unfolding steps inner_nodes weigh
  inner_steps notes ordering =
      let inner = λ (p : ℕ). is_reached graph image p && is_inner_pair graph image p in
      let number = length_weighs inner (16 * graph.nr) in
      let known = blocks_from (is_known notes) (is_known first) inner 0 graph.nr (inner_or_leaf notes ordering) in
      let less = wider_weight (is_settled notes) (is_known notes) (λ c. 1) graph.nr (λ c e. (and_parts _ _ e).0) in
      let more = wider_weight (is_known first) (is_settled first) (λ c. 1) graph.nr leaf_settled in
      omega arith

-- those are some of all that are reached
pub inner_few : (graph : Graph) (image : List (List ℕ)) → length (inner_nodes graph image) ≤ length (nodes graph image)
unfolding inner_nodes nodes
inner_few graph image =
    let inner = λ (p : ℕ). is_reached graph image p && is_inner_pair graph image p in
    let number = length_weighs inner (16 * graph.nr) in
    let all = length_weighs (is_reached graph image) (16 * graph.nr) in
    let wider = wider_weight inner (is_reached graph image) (λ p. 1) (16 * graph.nr) (λ p e. (and_parts (is_reached graph image p) (is_inner_pair graph image p) e).0) in
    omega arith
