-- In the end each node is settled, so the marks are those of the stage Order.
use Rattle.std.proofs.Common.{◌≡◌, ◌⊎◌, inl, inr, ℕ, zero, suc, ◌+◌, ◌-◌, ◌*◌, ◌<◌, ◌≤◌, Bool, true, false, ◌&&◌, ◌||◌, not, cond, nat_eq, nat_lt, List, [], length, Some, None, refl, sym, ◌∙◌, ap, subst, arith, zero-add, eq-eqb}
use Rattle.std.specs.List.{list_any, range_with_len}
use Rattle.std.proofs.Math.Bool.{or-false}
use Rattle.std.proofs.lemmas.Bool.{cases_Bool, cases_eq, cases_lt, ne_eqb, both_ways, and_parts, and_from, lt-ltb, le-ltb, ltb-true}
use Rattle.pd_kinds.specs.declared.rule.Rule.{Rule}
use Rattle.pd_kinds.specs.Rule.{same_rule}
use Rattle.pd_kinds.specs.Graph.{Graph, block_at, pair, block_of, role_of, is_inner_pair, next, is_reached, nodes, children, has_chain, is_deep, is_in_range, keys_below}
use Rattle.pd_kinds.specs.Lawful.{IsLawful}
use Rattle.pd_kinds.specs.Stages.{roles_of, order_bad, is_out_of_range}
use Rattle.pd_kinds.proofs.PathLemmas.{passing_below, passes_below}
use Rattle.pd_kinds.specs.declared.rule.Rule.TheVariants as r
use Rattle.pd_graph.specs.declared.audit.Audit.{Audit}
use Rattle.pd_graph.specs.declared.notes.Note.{Note}
use Rattle.pd_graph.specs.Marks.{has_bit}
use Rattle.pd_graph.specs.Audit.{roles_at, has_rule_at, note_at, KeepsButNotes, KeepsButRules}
use Rattle.pd_graph.specs.Walk.{IsWalked, weigh_list}
use Rattle.pd_graph.proofs.BitLemmas.{pair_block, counts_one, counts_none}
use Rattle.pd_graph.proofs.AnyLemmas.{any_kept}
use Rattle.pd_graph.proofs.Weights.{at_most_one}
use Rattle.pd_settle.specs.Notes.{keys_note}
use Rattle.pd_settle.specs.Settled.{is_well, is_good_node, IsGoodNote, is_node, IsClean, IsOrdering, IsClosed, HasRoles, KeepsKnown, AreSettled, noted_rule, breaks, IsSettled}
use Rattle.pd_settle.proofs.EntryLemmas.{exact_at, never_deep}
use Rattle.pd_settle.proofs.NodeLemmas.{reached_within, any_child_node, order_bad_at}
use Rattle.pd_settle.proofs.GoodLemmas.{good_is_shallow}
use Rattle.pd_settle.proofs.ChainLemmas.{is_among, longer_chain, chain_by}

-- a block that is no node of a tree has none of the rules
module _ (graph : Graph) (image : List (List ℕ)) (lawful : IsLawful graph) where
  not_inner : (p : ℕ) → is_reached graph image p ≡ true → graph.is_tree (role_of p) ≡ false → is_inner_pair graph image p ≡ false
  not_inner p reached none = elim (cases_Bool (is_inner_pair graph image p)) [
    | inl e ↦
        let within = (reached_within graph image p lawful reached).0 in
        absurd (both_ways _ none ((lawful.each (role_of p) (block_of p) (block_at image (block_of p)) within).inner_tree e))
    | inr e ↦ e
  ]

  no_chain : (p : ℕ) → is_inner_pair graph image p ≡ false → has_chain (children graph image) 64 p ≡ false
  unfolding has_chain children
  no_chain p e = ap (λ (x : Bool). list_any (has_chain (children graph image) 63) (cond x (next graph image p) [])) e

  not_deep : (p : ℕ) → is_inner_pair graph image p ≡ false → is_deep graph image p ≡ false
  unfolding is_deep
  not_deep p e = no_chain p e

  not_out : (p : ℕ) → is_inner_pair graph image p ≡ false → is_out_of_range graph image p ≡ false
  unfolding is_out_of_range
  not_out p e = ap (λ (x : Bool). x && (not (is_deep graph image p) && not (is_in_range graph image p))) e

  none_passes_in : (b : ℕ) (f : ℕ → Bool) → ((role : ℕ) → role < 16 → is_reached graph image (pair b role) ≡ true → f role ≡ false) → list_any f (roles_of graph image b) ≡ false
  unfolding roles_of
  none_passes_in b f none =
      let test = λ (s : ℕ). is_reached graph image (pair b s) && f s in
      any_kept f (λ s. is_reached graph image (pair b s)) (range_with_len 0 16)
      ∙ elim (cases_Bool (list_any test (range_with_len 0 16))) [
        | inl some ↦
            let one = passing_below test 16 some in
            let parts = and_parts _ (f one.0) one.2 in
            absurd (both_ways _ (none one.0 one.1 parts.0) parts.1)
        | inr e ↦ e
      ]

  order_none : (b : ℕ) (wanted : Rule) → ((role : ℕ) → role < 16 → is_reached graph image (pair b role) ≡ true → is_inner_pair graph image (pair b role) ≡ false)
      → order_bad graph image b wanted ≡ false
  unfolding order_bad
  order_none b wanted none =
      ap (λ (x : Bool). (x && same_rule r.Level wanted) || (list_any (λ s. is_out_of_range graph image (pair b s)) (roles_of graph image b) && same_rule r.Range wanted))
      (none_passes_in b (λ s. is_deep graph image (pair b s)) (λ role within reached. not_deep (pair b role) (none role within reached)))
      ∙ ap (λ (x : Bool). false || (x && same_rule r.Range wanted))
      (none_passes_in b (λ s. is_out_of_range graph image (pair b s)) (λ role within reached. not_out (pair b role) (none role within reached)))

-- in the end each node is settled
module _ (graph : Graph) (image : List (List ℕ)) (nodes fit : ℕ → Bool) (strict : Bool) (notes : ℕ → Note) (ordering : IsOrdering graph image nodes fit strict notes)
    (closed : IsClosed notes) (done : (p : ℕ) → nodes p ≡ true → 1 ≤ (notes (block_of p)).height) where
  height_end : (p : ℕ) → nodes p ≡ true → nat_lt (notes (block_of p)).height 65 ≡ is_good_node graph image fit strict p
  height_end p node = elim (cases_lt (notes (block_of p)).height 65) [
    | inl less ↦ lt-ltb (notes (block_of p)).height 65 less ∙ sym (ordering.good p node (done p node) (omega arith)).good
    | inr more ↦ le-ltb (notes (block_of p)).height 65 more ∙ sym (ordering.bad p node more (closed.none (block_of p)))
  ]

  good_end : (p : ℕ) → nodes p ≡ true → is_good_node graph image fit strict p ≡ true → IsGoodNote graph image fit strict p (notes (block_of p))
  good_end p node good =
      let low = ltb-true (notes (block_of p)).height 65 (height_end p node ∙ good) in
      ordering.good p node (done p node) (omega arith)

  others_end : (c : ℕ) → ((role : ℕ) → role < 16 → nodes (pair c role) ≡ false) → ((notes c).height ≡ 0) × ((notes c).in_range ≡ true)
  others_end c none = elim (cases_eq (notes c).height 0) [
    | inl e ↦ (e, ordering.unknown c e)
    | inr ne ↦
        let one = ordering.looked c (omega arith) in
        absurd (both_ways _ (none one.0 one.1) one.2)
  ]

  pub all_settled : AreSettled graph image nodes fit strict notes
  all_settled = record { known = done; height = height_end; good = good_end; others = others_end }

-- the rule of a note, where it tells of the node
rule_told : (low in_range deep out : Bool) (wanted : Rule) → low ≡ not deep → (deep ≡ false → out ≡ not in_range) → (deep ≡ true → out ≡ false)
    → breaks (cond low (cond in_range None (Some r.Range)) (Some r.Level)) wanted ≡ ((deep && same_rule r.Level wanted) || (out && same_rule r.Range wanted))
rule_told low in_range true out wanted e shallow deep = rw (e, deep refl) (sym (or-false (same_rule r.Level wanted)))
rule_told low true false out wanted e shallow deep = rw (e, shallow refl) refl
rule_told low false false out wanted e shallow deep = rw (e, shallow refl) refl

out_told : (i g n : Bool) → n ≡ (not i || g) → (i && (not false && not g)) ≡ not n
out_told true g n e = rw e refl
out_told false g n e = rw e refl

out_deep : (i g : Bool) → (i && (not true && not g)) ≡ false
out_deep true g = refl
out_deep false g = refl

not_not : (a b : Bool) → b ≡ not a → a ≡ not b
not_not true b e = rw e refl
not_not false b e = rw e refl

module _ (graph : Graph) (image : List (List ℕ)) (audit : Audit) (lawful : IsLawful graph) (clean : IsClean graph image)
    (settled : AreSettled graph image (is_node graph image) (λ c. true) false (note_at audit))
    (rules : (c : ℕ) (wanted : Rule) → c < graph.nr → has_rule_at audit c wanted ≡ breaks (noted_rule (note_at audit c)) wanted) where
  -- a node is good where it isn't deep
  good_by : (p : ℕ) → is_good_node graph image (λ c. true) false p ≡ not (is_deep graph image p)
  unfolding is_good_node is_deep
  good_by p = good_is_shallow (is_well graph image (λ c. true) false) (children graph image) (λ q. refl) 64 p

  low_end : (p : ℕ) → is_node graph image p ≡ true → nat_lt (note_at audit (block_of p)).height 65 ≡ not (is_deep graph image p)
  low_end p node = settled.height p node ∙ good_by p

  deep_end : (p : ℕ) → is_node graph image p ≡ true → is_deep graph image p ≡ not (nat_lt (note_at audit (block_of p)).height 65)
  deep_end p node = not_not (is_deep graph image p) (nat_lt (note_at audit (block_of p)).height 65) (low_end p node)

  note_end : (p : ℕ) → is_node graph image p ≡ true → is_deep graph image p ≡ false → IsGoodNote graph image (λ c. true) false p (note_at audit (block_of p))
  note_end p node shallow = settled.good p node (good_by p ∙ ap not shallow)

  out_end : (p : ℕ) → is_node graph image p ≡ true → is_deep graph image p ≡ false → is_out_of_range graph image p ≡ not (note_at audit (block_of p)).in_range
  unfolding is_out_of_range
  out_end p node shallow =
      ap (λ (x : Bool). is_inner_pair graph image p && (not x && not (is_in_range graph image p))) shallow
      ∙ out_told (is_inner_pair graph image p) (is_in_range graph image p) (note_at audit (block_of p)).in_range (note_end p node shallow).ranged

  deep_out : (p : ℕ) → is_deep graph image p ≡ true → is_out_of_range graph image p ≡ false
  unfolding is_out_of_range
  deep_out p deep =
      ap (λ (x : Bool). is_inner_pair graph image p && (not x && not (is_in_range graph image p))) deep
      ∙ out_deep (is_inner_pair graph image p) (is_in_range graph image p)

  node_rules : (p : ℕ) (wanted : Rule) → is_node graph image p ≡ true
      → breaks (noted_rule (note_at audit (block_of p))) wanted ≡ ((is_deep graph image p && same_rule r.Level wanted) || (is_out_of_range graph image p && same_rule r.Range wanted))
  node_rules p wanted node =
      rule_told (nat_lt (note_at audit (block_of p)).height 65) (note_at audit (block_of p)).in_range (is_deep graph image p) (is_out_of_range graph image p) wanted
      (low_end p node) (out_end p node) (deep_out p)

  blank_rules : (note : Note) (wanted : Rule) → note.height ≡ 0 → note.in_range ≡ true → breaks (noted_rule note) wanted ≡ false
  blank_rules note wanted e f =
      ap (λ (h : ℕ). breaks (cond (nat_lt h 65) (cond note.in_range None (Some r.Range)) (Some r.Level)) wanted) e
      ∙ ap (λ (x : Bool). breaks (cond x None (Some r.Range)) wanted) f

  rules_end : (b : ℕ) (wanted : Rule) → b < graph.nr → has_rule_at audit b wanted ≡ order_bad graph image b wanted
  rules_end b wanted small =
      rules b wanted small
      ∙ elim (cases_Bool (list_any (λ role. is_node graph image (pair b role)) (range_with_len 0 16))) [
        | inl some ↦
            let one = passing_below (λ role. is_node graph image (pair b role)) 16 some in
            ap (λ (c : ℕ). breaks (noted_rule (note_at audit c)) wanted) (sym (pair_block b one.0 one.1))
            ∙ (node_rules (pair b one.0) wanted one.2
            ∙ sym (order_bad_at graph image b one.0 wanted small one.1 clean (and_parts _ _ one.2).0))
        | inr none ↦
            let no_role : (role : ℕ) → role < 16 → is_node graph image (pair b role) ≡ false =
            λ role within. elim (cases_Bool (is_node graph image (pair b role))) [
              | inl is_one ↦ absurd (both_ways _ none (passes_below (λ s. is_node graph image (pair b s)) 16 role within is_one))
              | inr e ↦ e
            ] in
            let blank = settled.others b no_role in
            blank_rules (note_at audit b) wanted blank.0 blank.1
            ∙ sym (order_none graph image lawful b wanted
            (λ role within reached. not_inner graph image lawful (pair b role) reached
            (elim (cases_Bool (graph.is_tree (role_of (pair b role)))) [
              | inl tree ↦ absurd (both_ways _ (no_role role within) (and_from _ _ reached tree))
              | inr e ↦ e
            ])))
      ]

  keys_end : (p : ℕ) → is_node graph image p ≡ true → is_deep graph image p ≡ false
      → note_at audit (block_of p) ≡ keys_note (keys_below graph image p) (note_at audit (block_of p)).height (note_at audit (block_of p)).in_range
  unfolding keys_below
  keys_end p node shallow = (note_end p node shallow).noted.keys

  -- as long a chain as the height says
  chain_end : (q h : ℕ) → is_node graph image q ≡ true → h ≤ 64 → h ≤ (note_at audit (block_of q)).height → has_chain (children graph image) (h - 1) q ≡ true
  unfolding is_deep
  chain_end q h node few high = elim (cases_Bool (is_deep graph image q)) [
    | inl deep ↦ chain_by (children graph image) (h - 1) 64 q (omega arith) deep
    | inr shallow ↦
        let noted = (note_end q node shallow).noted in
        chain_by (children graph image) (h - 1) ((note_at audit (block_of q)).height - 1) q (omega arith) noted.long
  ]

  above_end : (p q : ℕ) → is_node graph image p ≡ true → is_deep graph image p ≡ false → is_among q (children graph image p) ≡ true
      → (note_at audit (block_of q)).height < (note_at audit (block_of p)).height
  above_end p q node shallow among =
      let noted = (note_end p node shallow).noted in
      let h = (note_at audit (block_of p)).height in
      elim (cases_lt (note_at audit (block_of q)).height h) [
        | inl less ↦ less
        | inr more ↦
            let chain = chain_end q h (any_child_node graph image lawful p q node among) noted.high more in
            let low = noted.low in
            absurd (both_ways _ noted.ends
            (subst (λ (k : ℕ). has_chain (children graph image) k p ≡ true) (let e : suc (h - 1) ≡ h = omega arith in e) (longer_chain (children graph image) (h - 1) p q among chain)))
      ]

  exact_end : ((b : ℕ) (wanted : Rule) → b < graph.nr → order_bad graph image b wanted ≡ false) → (p : ℕ) → is_node graph image p ≡ true
      → (note_at audit (block_of p)).below ≡ length (keys_below graph image p)
  exact_end ordered p node =
      ap (λ (n : Note). n.below) (keys_end p node (never_deep graph image lawful clean ordered p node)) ∙ exact_at graph image lawful clean ordered p node

  pub settled_of : IsSettled graph image audit
  settled_of = record {
    rules = rules_end;
    deep = deep_end;
    notes = keys_end;
    low = λ p node shallow. (note_end p node shallow).noted.high;
    above = above_end;
    exact = exact_end;
  }

-- one of a range that passes
one_weighs : (f : ℕ → Bool) (a n x : ℕ) → a ≤ x → x < a + n → f x ≡ true → 1 ≤ weigh_list f (λ c. 1) (range_with_len a n)
one_weighs f a zero x low high passes = absurd (omega arith)
one_weighs f a (suc n) x low high passes = elim (cases_eq a x) [
  | inl same ↦ let e = counts_one (f a) (ap f same ∙ passes) in omega arith
  | inr ne ↦ let rest = one_weighs f (a + 1) n x (omega arith) (omega arith) passes in omega arith
]

weigh_split : (f : ℕ → Bool) (a m n : ℕ) → weigh_list f (λ c. 1) (range_with_len a (m + n)) ≡ weigh_list f (λ c. 1) (range_with_len a m) + weigh_list f (λ c. 1) (range_with_len (a + m) n)
weigh_split f a zero n =
    let e : 0 + n ≡ n = omega arith in
    let e' : a + 0 ≡ a = omega arith in
    rw (e, e', zero-add) refl
weigh_split f a (suc m) n =
    let rest = weigh_split f (a + 1) m n in
    let e : suc m + n ≡ suc (m + n) = omega arith in
    let e' : a + suc m ≡ a + 1 + m = omega arith in
    rw (e, e') (omega arith)

-- each that passes passes another test, or is the block of a pair that passes the third
pub blocks_from : (f h g : ℕ → Bool) (a n : ℕ) → ((c : ℕ) → f c ≡ true → (h c ≡ true) ⊎ ((role : ℕ) × (role < 16) × (g (pair c role) ≡ true)))
    → weigh_list f (λ c. 1) (range_with_len a n) ≤ weigh_list h (λ c. 1) (range_with_len a n) + weigh_list g (λ c. 1) (range_with_len (16 * a) (16 * n))
blocks_from f h g a zero each = omega arith
blocks_from f h g a (suc n) each =
    let rest = blocks_from f h g (a + 1) n each in
    let split : weigh_list g (λ c. 1) (range_with_len (16 * a) (16 * suc n)) ≡ weigh_list g (λ c. 1) (range_with_len (16 * a) 16) + weigh_list g (λ c. 1) (range_with_len (16 * (a + 1)) (16 * n)) =
    ap (λ (k : ℕ). weigh_list g (λ c. 1) (range_with_len (16 * a) k)) (let e : 16 * suc n ≡ 16 + 16 * n = omega arith in e)
    ∙ (weigh_split g (16 * a) 16 (16 * n)
    ∙ ap (λ (k : ℕ). weigh_list g (λ c. 1) (range_with_len (16 * a) 16) + weigh_list g (λ c. 1) (range_with_len k (16 * n))) (let e : 16 * a + 16 ≡ 16 * (a + 1) = omega arith in e)) in
    let most = at_most_one (f a) in
    elim (cases_Bool (f a)) [
      | inl e ↦ elim (each a e) [
        | inl same ↦ let kept = counts_one (h a) same in omega arith
        | inr one ↦
            let within = one.1 in
            let some = one_weighs g (16 * a) 16 (pair a one.0) (omega arith) (omega arith) one.2 in
            omega arith
      ]
      | inr e ↦ let none = counts_none (f a) e in omega arith
    ]

-- each node was visited, by the roles that the audit has
pub done_from : (graph : Graph) (image : List (List ℕ)) (first now : Audit) (roles b : ℕ) → IsLawful graph → graph.roles ≡ roles → graph.nr ≤ b → IsWalked graph image first
    → ((c role : ℕ) → c < b → role < roles → has_bit (roles_at first c) role ≡ true → graph.is_tree role ≡ true → 1 ≤ (note_at now c).height)
    → (p : ℕ) → is_node graph image p ≡ true → 1 ≤ (note_at now (block_of p)).height
done_from graph image first now roles b lawful same past walked done p node =
    let parts = and_parts _ _ node in
    let within = reached_within graph image p lawful parts.0 in
    let role = within.0 in
    let small = within.1 in
    done (block_of p) (role_of p) (omega arith) (omega arith)
    (walked.roles (block_of p) (role_of p) (omega arith) (omega arith)
    ∙ (ap (is_reached graph image) (let e : pair (block_of p) (role_of p) ≡ p = omega arith in e) ∙ parts.0))
    parts.1

-- and one more is
pub done_more : (roles b : ℕ) (tree : ℕ → Bool) (first before now : Audit) → KeepsButNotes first before → KeepsKnown (note_at before) (note_at now)
    → ((c role : ℕ) → c < b → role < roles → has_bit (roles_at first c) role ≡ true → tree role ≡ true → 1 ≤ (note_at before c).height)
    → ((role : ℕ) → role < roles → has_bit (roles_at before b) role ≡ true → tree role ≡ true → 1 ≤ (note_at now b).height)
    → (c role : ℕ) → c < b + 1 → role < roles → has_bit (roles_at first c) role ≡ true → tree role ≡ true → 1 ≤ (note_at now c).height
done_more roles b tree first before now kept knows done here c role small within has is_tree = elim (cases_eq c b) [
  | inl same ↦
      let last = here role within (ap (λ (set : ℕ). has_bit set role) (kept.roles b ∙ ap (roles_at first) (sym same)) ∙ has) is_tree in
      let e : (note_at now c).height ≡ (note_at now b).height = ap (λ (d : ℕ). (note_at now d).height) same in
      omega arith
  | inr ne ↦ knows.known c (done c role (omega arith) within has is_tree)
]

-- the roles stay those of the walk
pub roles_kept : (graph : Graph) (image : List (List ℕ)) (first now : Audit) → IsWalked graph image first → KeepsButNotes first now → HasRoles graph image now
roles_kept graph image first now walked kept = record {
  roles = λ b role small within. ap (λ (set : ℕ). has_bit set role) (kept.roles b) ∙ walked.roles b role small within;
}

-- all but the notes stays, over two steps
pub marks_both : (a b c : Audit) → KeepsButNotes a b → KeepsButNotes b c → KeepsButNotes a c
marks_both a b c first second = record {
  number = second.number ∙ first.number;
  walked = second.walked ∙ first.walked;
  roles = λ d. second.roles d ∙ first.roles d;
  rules = λ d wanted. second.rules d wanted ∙ first.rules d wanted;
  counts = λ d. second.counts d ∙ first.counts d;
}

-- and all but the rules
pub rules_both : (a b c : Audit) → KeepsButRules a b → KeepsButRules b c → KeepsButRules a c
rules_both a b c first second = record {
  number = second.number ∙ first.number;
  walked = second.walked ∙ first.walked;
  roles = λ d. second.roles d ∙ first.roles d;
  counts = λ d. second.counts d ∙ first.counts d;
  notes = λ d. second.notes d ∙ first.notes d;
}

-- what is settled is so by other notes that say the same
pub settled_kept : (graph : Graph) (image : List (List ℕ)) (nodes : ℕ → Bool) (old new : ℕ → Note) → ((c : ℕ) → new c ≡ old c)
    → AreSettled graph image nodes (λ c. true) false old → AreSettled graph image nodes (λ c. true) false new
settled_kept graph image nodes old new same settled = record {
  known = λ p node. let h = ap (λ (n : Note). n.height) (same (block_of p)) in let before = settled.known p node in omega arith;
  height = λ p node. ap (λ (n : Note). nat_lt n.height 65) (same (block_of p)) ∙ settled.height p node;
  good = λ p node good.
      subst (λ (n : Note). IsGoodNote graph image (λ c. true) false p n) (sym (same (block_of p))) (settled.good p node good);
  others = λ c none.
      let before = settled.others c none in
      (ap (λ (n : Note). n.height) (same c) ∙ before.0, ap (λ (n : Note). n.in_range) (same c) ∙ before.1);
}

-- one block more has its rules
pub marks_more : (test : ℕ → Bool) (c b : ℕ) (first before now : Bool) → before ≡ (first || (nat_lt c b && test c)) → now ≡ (before || (nat_eq c b && test b))
    → now ≡ (first || (nat_lt c (b + 1) && test c))
marks_more test c b first before now e f = elim (cases_lt c b) [
  | inl less ↦
      f ∙ (ap (λ (x : Bool). before || (x && test b)) (ne_eqb c b (λ same. absurd (omega arith)))
      ∙ (or-false before ∙ (e
      ∙ ap (λ (x : Bool). first || (x && test c)) (lt-ltb c b less ∙ sym (lt-ltb c (b + 1) (omega arith))))))
  | inr more ↦ elim (cases_eq c b) [
    | inl same ↦
        f ∙ (ap (λ (x : Bool). before || (x && test b)) (eq-eqb c b same)
        ∙ (ap (λ (x : Bool). x || test b) (e ∙ (ap (λ (x : Bool). first || (x && test c)) (le-ltb c b more) ∙ or-false first))
        ∙ (ap (λ (d : ℕ). first || test d) (sym same)
        ∙ ap (λ (x : Bool). first || (x && test c)) (sym (lt-ltb c (b + 1) (omega arith))))))
    | inr ne ↦
        f ∙ (ap (λ (x : Bool). before || (x && test b)) (ne_eqb c b ne)
        ∙ (or-false before ∙ (e
        ∙ ap (λ (x : Bool). first || (x && test c)) (le-ltb c b more ∙ sym (le-ltb c (b + 1) (omega arith))))))
  ]
]
