-- A node of a tree and its children, as its block shows them.
use Rattle.std.proofs.Common.{◌≡◌, inl, inr, ℕ, ◌*◌, ◌/◌, ◌%◌, ◌<◌, Bool, true, false, ◌&&◌, ◌||◌, cond, nat_eq, List, [], ◌∷◌, map, refl, sym, ◌∙◌, ap, arith, eq-eqb, zero, suc, ◌+◌, ◌≤◌, length, filter}
use Rattle.std.specs.List.{list_any, AllByRecursion, range_with_len}
use Rattle.std.proofs.lemmas.Bool.{or_cases, or_left, or_right, and_parts, and_from, eqb-true, both_ways, cases_Bool, cases_eq, cases_lt, lt-ltb}
use Rattle.pd_kinds.specs.declared.rule.Rule.{Rule}
use Rattle.pd_kinds.specs.Rule.{same_rule}
use Rattle.pd_kinds.specs.Graph.{Edge, Graph, block_at, pair, own_keys, is_inner_pair, next, is_reached, children, has_chain, is_deep, block_of, role_of, edges_of}
use Rattle.pd_kinds.specs.Lawful.{KeepsLaws, IsLawful}
use Rattle.pd_kinds.specs.Paths.{edge, IsOnPath, start}
use Rattle.pd_kinds.specs.Stages.{roles_of, order_bad, is_out_of_range, walk_bad}
use Rattle.pd_kinds.proofs.NumberLemmas.{same_test}
use Rattle.pd_kinds.proofs.PathLemmas.{path_from_reached, reached_from_path, passing_below, passes_below}
use Rattle.pd_kinds.specs.declared.rule.Rule.TheVariants as r
use Rattle.pd_graph.specs.declared.notes.Note.{Note}
use Rattle.pd_graph.proofs.BitLemmas.{pair_block, pair_role}
use Rattle.pd_graph.proofs.AnyLemmas.{any_kept}
use Rattle.pd_graph.proofs.WalkLemmas.{leads_within}
use Rattle.pd_graph.specs.declared.audit.Audit.{Audit}
use Rattle.pd_graph.specs.Audit.{has_rule_at}
use Rattle.pd_graph.specs.Walk.{IsWalked}
use Rattle.pd_settle.specs.Notes.{join, joined, are_notes_in_range}
use Rattle.pd_settle.specs.Looking.{blocks_of_edges}
use Rattle.pd_settle.specs.Settled.{IsClean, is_node, AreSettleable}
use Rattle.pd_settle.proofs.ChainLemmas.{is_among, never_ends}

-- what leads on from a pair that is reached is reached
pub reached_next : (graph : Graph) (image : List (List ℕ)) (p q : ℕ) → p < 16 * graph.nr → is_reached graph image p ≡ true → is_among q (next graph image p) ≡ true
    → is_reached graph image q ≡ true
unfolding is_reached
reached_next graph image p q small reached leads =
    reached_from_path (16 * graph.nr) (next graph image) q
    (edge p q small (path_from_reached (16 * graph.nr) (next graph image) (16 * graph.nr) p reached) leads)

-- a number of a list, in the list of what each becomes
pub among_map : (f : ℕ → ℕ) (c : ℕ) (cs : List ℕ) → is_among c cs ≡ true → is_among (f c) (map f cs) ≡ true
among_map f c [] among = among
among_map f c (x ∷ xs) among = elim (or_cases (nat_eq x c) (is_among c xs) among) [
  | inl same ↦ or_left (nat_eq (f x) (f c)) _ (eq-eqb (f x) (f c) (ap f (eqb-true x c same)))
  | inr later ↦ or_right (nat_eq (f x) (f c)) _ (among_map f c xs later)
]

pub from_map : (f : ℕ → ℕ) (q : ℕ) (cs : List ℕ) → is_among q (map f cs) ≡ true → (c : ℕ) × (is_among c cs ≡ true) × (q ≡ f c)
from_map f q [] among = absurd (both_ways _ refl among)
from_map f q (x ∷ xs) among = elim (or_cases (nat_eq (f x) q) (is_among q (map f xs)) among) [
  | inl same ↦ (x, or_left (nat_eq x x) _ (eq-eqb x x refl), sym (eqb-true (f x) q same))
  | inr later ↦ let rest = from_map f q xs later in (rest.0, or_right (nat_eq x rest.0) _ rest.1, rest.2)
]

-- the edges of an inner node keep its role
edges_in_role : (role : ℕ) (edges : List Edge) → AllByRecursion (λ (e : Edge). e.role ≡ role) edges
    → map (λ (e : Edge). pair e.block e.role) edges ≡ map (λ c. pair c role) (blocks_of_edges edges)
edges_in_role role [] all = refl
edges_in_role role (x ∷ xs) all = rw (all.0, edges_in_role role xs all.1) refl

-- notes by pair and by block
pub joined_map : (f : ℕ → ℕ) (by_pair by_block : ℕ → Note) (cs : List ℕ) (sum : Note) → ((c : ℕ) → by_pair (f c) ≡ by_block c)
    → joined by_pair sum (map f cs) ≡ joined by_block sum cs
joined_map f by_pair by_block [] sum same = refl
joined_map f by_pair by_block (c ∷ cs) sum same =
    ap (λ (n : Note). joined by_pair (join sum n) (map f cs)) (same c) ∙ joined_map f by_pair by_block cs (join sum (by_block c)) same

pub ranges_map : (f : ℕ → ℕ) (by_pair by_block : ℕ → Note) (lows cs : List ℕ) → ((c : ℕ) → by_pair (f c) ≡ by_block c)
    → are_notes_in_range by_pair lows (map f cs) ≡ are_notes_in_range by_block lows cs
ranges_map f by_pair by_block [] cs same = refl
ranges_map f by_pair by_block (low ∷ []) [] same = refl
ranges_map f by_pair by_block (low ∷ high ∷ lows) [] same = refl
ranges_map f by_pair by_block (low ∷ []) (c ∷ cs) same = rw (same c) refl
ranges_map f by_pair by_block (low ∷ high ∷ lows) (c ∷ cs) same = rw (same c, ranges_map f by_pair by_block (high ∷ lows) cs same) refl

-- a node, its block and its role
module _ (graph : Graph) (image : List (List ℕ)) (b role : ℕ) (block : List ℕ) (within : role < 16) (found : block_at image b ≡ block) where
  at_pair : {X : Type 0} → (F : ℕ → ℕ → List ℕ → X) → F (pair b role % 16) (pair b role / 16) (block_at image (pair b role / 16)) ≡ F role b block
  at_pair F =
      ap (λ (s : ℕ). F s (pair b role / 16) (block_at image (pair b role / 16))) (pair_role b role within)
      ∙ (ap (λ (place : ℕ). F role place (block_at image place)) (pair_block b role within)
      ∙ ap (F role b) found)

  pub inner_at : is_inner_pair graph image (pair b role) ≡ graph.is_inner role b block
  inner_at = at_pair graph.is_inner

  pub keys_at : own_keys graph image (pair b role) ≡ graph.keys role b block
  keys_at = at_pair graph.keys

  pub children_none : graph.is_inner role b block ≡ false → children graph image (pair b role) ≡ []
  unfolding children
  children_none leaf = ap (λ (x : Bool). cond x (next graph image (pair b role)) []) (inner_at ∙ leaf)

  pub children_next : graph.is_inner role b block ≡ true → children graph image (pair b role) ≡ next graph image (pair b role)
  unfolding children
  children_next is_inner = ap (λ (x : Bool). cond x (next graph image (pair b role)) []) (inner_at ∙ is_inner)

  pub children_at : KeepsLaws graph role b block → graph.is_inner role b block ≡ true
      → children graph image (pair b role) ≡ map (λ c. pair c role) (blocks_of_edges (graph.edges role b block))
  unfolding next
  children_at laws is_inner =
      children_next is_inner
      ∙ (ap (map (λ (e : Edge). pair e.block e.role)) (at_pair graph.edges) ∙ edges_in_role role (graph.edges role b block) (laws.inner_edges is_inner))

  pub child_at : KeepsLaws graph role b block → graph.is_inner role b block ≡ true → (c : ℕ) → is_among c (blocks_of_edges (graph.edges role b block)) ≡ true
      → is_among (pair c role) (children graph image (pair b role)) ≡ true
  child_at laws is_inner c among =
      ap (is_among (pair c role)) (children_at laws is_inner) ∙ among_map (λ d. pair d role) c (blocks_of_edges (graph.edges role b block)) among

-- what holds in some role in which a block is reached holds in its only one
pub in_only_role : (graph : Graph) (image : List (List ℕ)) (b role : ℕ) (f : ℕ → Bool) → b < graph.nr → role < 16 → IsClean graph image → is_reached graph image (pair b role) ≡ true
    → list_any f (roles_of graph image b) ≡ f role
unfolding roles_of
in_only_role graph image b role f below within clean reached =
    let test = λ (s : ℕ). is_reached graph image (pair b s) && f s in
    any_kept f (λ s. is_reached graph image (pair b s)) (range_with_len 0 16)
    ∙ same_test (list_any test (range_with_len 0 16)) (f role)
    (λ some.
    let one = passing_below test 16 some in
    let small = one.1 in
    let parts = and_parts _ (f one.0) one.2 in
    let block = pair_block b role within in
    let alone = clean.alone (pair b one.0) (pair b role) (omega arith) parts.0 reached (pair_block b one.0 small ∙ sym (pair_block b role within)) in
    let e : role ≡ one.0 = omega arith in
    ap f e ∙ parts.1)
    (λ passes. passes_below test 16 role within (and_from _ (f role) reached passes))

pub order_bad_at : (graph : Graph) (image : List (List ℕ)) (b role : ℕ) (wanted : Rule) → b < graph.nr → role < 16 → IsClean graph image → is_reached graph image (pair b role) ≡ true
    → order_bad graph image b wanted
    ≡ ((is_deep graph image (pair b role) && same_rule r.Level wanted) || (is_out_of_range graph image (pair b role) && same_rule r.Range wanted))
unfolding order_bad
order_bad_at graph image b role wanted below within clean reached =
    ap (λ (x : Bool). (x && same_rule r.Level wanted) || (list_any (λ s. is_out_of_range graph image (pair b s)) (roles_of graph image b) && same_rule r.Range wanted))
    (in_only_role graph image b role (λ s. is_deep graph image (pair b s)) below within clean reached)
    ∙ ap (λ (x : Bool). (is_deep graph image (pair b role) && same_rule r.Level wanted) || (x && same_rule r.Range wanted))
    (in_only_role graph image b role (λ s. is_out_of_range graph image (pair b s)) below within clean reached)

-- the blocks on the stack are nodes, each a child of the one below it
abbrev pub IsUnder : Graph → List (List ℕ) → ℕ → ℕ → List ℕ → Type 0
IsUnder graph image role b [] = Unit {0}
IsUnder graph image role b (c ∷ rest) = is_among (pair b role) (children graph image (pair c role)) ≡ true

abbrev pub IsTrail : Graph → List (List ℕ) → (ℕ → Bool) → ℕ → List ℕ → Type 0
IsTrail graph image nodes role [] = Unit {0}
IsTrail graph image nodes role (b ∷ rest) = (nodes (pair b role) ≡ true) × IsUnder graph image role b rest × IsTrail graph image nodes role rest

-- each but the top has a child on the stack
trail_child : (graph : Graph) (image : List (List ℕ)) (nodes : ℕ → Bool) (role b x : ℕ) (rest : List ℕ) → IsTrail graph image nodes role (b ∷ rest) → is_among x rest ≡ true
    → (y : ℕ) × (is_among y (b ∷ rest) ≡ true) × (is_among (pair y role) (children graph image (pair x role)) ≡ true)
trail_child graph image nodes role b x [] trail among = absurd (both_ways _ refl among)
trail_child graph image nodes role b x (c ∷ more) trail among = elim (or_cases (nat_eq c x) (is_among x more) among) [
  | inl same ↦ (
    b,
    or_left (nat_eq b b) _ (eq-eqb b b refl),
    ap (λ (d : ℕ). is_among (pair b role) (children graph image (pair d role))) (sym (eqb-true c x same)) ∙ trail.1,
  )
  | inr later ↦
      let above = trail_child graph image nodes role c x more trail.2 later in
      (above.0, or_right (nat_eq b above.0) _ above.1, above.2)
]

-- so where the top has one too, all are deep
pub trail_is_deep : (graph : Graph) (image : List (List ℕ)) (nodes : ℕ → Bool) (role b c j : ℕ) (rest : List ℕ) → IsTrail graph image nodes role (b ∷ rest)
    → is_among c (b ∷ rest) ≡ true → is_among (pair c role) (children graph image (pair b role)) ≡ true
    → has_chain (children graph image) j (pair c role) ≡ true
trail_is_deep graph image nodes role b c j rest trail among leads =
    let S : ℕ → Type 0 = λ q. (x : ℕ) × (is_among x (b ∷ rest) ≡ true) × (q ≡ pair x role) in
    never_ends (children graph image) S
    (λ p within. elim (or_cases (nat_eq b within.0) (is_among within.0 rest) within.1) [
      | inl same ↦ (
        pair c role,
        (c, among, refl),
        ap (λ (q : ℕ). is_among (pair c role) (children graph image q)) (within.2 ∙ ap (λ (x : ℕ). pair x role) (sym (eqb-true b within.0 same))) ∙ leads,
      )
      | inr later ↦
          let above = trail_child graph image nodes role b within.0 rest trail later in
          (pair above.0 role, (above.0, above.1, refl), ap (λ (q : ℕ). is_among (pair above.0 role) (children graph image q)) within.2 ∙ above.2)
    ]) j (pair c role) (c, among, refl)

-- What is reached lies within, and the children of a node are nodes.

-- a pair that is reached lies within
path_within : (graph : Graph) (image : List (List ℕ)) (p : ℕ) → IsLawful graph → IsOnPath (16 * graph.nr) (next graph image) p → (p % 16 < graph.roles) × (p < 16 * graph.nr)
unfolding next
path_within graph image p lawful start = let some = lawful.some_role in let blocks = lawful.some_block in (omega arith, omega arith)
path_within graph image p lawful (edge q p' small path leads) =
    let before = path_within graph image q lawful path in
    leads_within graph (edges_of graph image q) p' lawful.few_roles (lawful.each (role_of q) (block_of q) (block_at image (block_of q)) before.0).within leads

pub reached_within : (graph : Graph) (image : List (List ℕ)) (p : ℕ) → IsLawful graph → is_reached graph image p ≡ true → (p % 16 < graph.roles) × (p < 16 * graph.nr)
unfolding is_reached
reached_within graph image p lawful reached = path_within graph image p lawful (path_from_reached (16 * graph.nr) (next graph image) (16 * graph.nr) p reached)

-- the role of what an inner node leads to
leads_role : (role : ℕ) (edges : List Edge) (t : ℕ) → role < 16 → AllByRecursion (λ (e : Edge). e.role ≡ role) edges
    → is_among t (map (λ (e : Edge). pair e.block e.role) edges) ≡ true → t % 16 ≡ role
leads_role role [] t within all leads = absurd (both_ways _ refl leads)
leads_role role (x ∷ xs) t within all leads = elim (or_cases (nat_eq (pair x.block x.role) t) _ leads) [
  | inl same ↦
      let e = eqb-true (pair x.block x.role) t same in
      let first = all.0 in
      omega arith
  | inr later ↦ leads_role role xs t within all.1 later
]

module _ (graph : Graph) (image : List (List ℕ)) (lawful : IsLawful graph) where
  child_cases : (p q : ℕ) (x : Bool) → is_inner_pair graph image p ≡ x → is_among q (cond x (next graph image p) []) ≡ true
      → (is_inner_pair graph image p ≡ true) × (is_among q (next graph image p) ≡ true)
  child_cases p q true e among = (e, among)
  child_cases p q false e among = absurd (both_ways _ refl among)

  pub child_of : (p q : ℕ) → is_among q (children graph image p) ≡ true → (is_inner_pair graph image p ≡ true) × (is_among q (next graph image p) ≡ true)
  unfolding children
  child_of p q among = child_cases p q (is_inner_pair graph image p) refl among

  -- a child has the role of the node, and lies within
  pub role_of_child : (p q : ℕ) → role_of p < graph.roles → is_inner_pair graph image p ≡ true → is_among q (next graph image p) ≡ true → role_of q ≡ role_of p
  unfolding next
  role_of_child p q known e leads =
      let few = lawful.few_roles in
      leads_role (role_of p) (edges_of graph image p) q (omega arith)
      ((lawful.each (role_of p) (block_of p) (block_at image (block_of p)) known).inner_edges e) leads

  pub child_within : (p q : ℕ) → role_of p < graph.roles → is_among q (next graph image p) ≡ true → (q % 16 < graph.roles) × (q < 16 * graph.nr)
  unfolding next
  child_within p q known leads =
      leads_within graph (edges_of graph image p) q lawful.few_roles (lawful.each (role_of p) (block_of p) (block_at image (block_of p)) known).within leads

  pub child_role : (p q : ℕ) → is_reached graph image p ≡ true → is_inner_pair graph image p ≡ true → is_among q (next graph image p) ≡ true → role_of q ≡ role_of p
  child_role p q reached e leads = role_of_child p q (reached_within graph image p lawful reached).0 e leads

  pub any_child_node : (p q : ℕ) → is_node graph image p ≡ true → is_among q (children graph image p) ≡ true → is_node graph image q ≡ true
  any_child_node p q node among =
      let parts = and_parts _ _ node in
      let child = child_of p q among in
      and_from _ _ (reached_next graph image p q (reached_within graph image p lawful parts.0).1 parts.0 child.1)
      (ap graph.is_tree (child_role p q parts.0 child.0 child.1) ∙ parts.1)

-- What the stage Walk says of a clean image: each block has one role, and no bad rule in it.

-- two numbers of a range that pass
keeps_one : (b : Bool) (x : ℕ) (kept : List ℕ) → length kept ≤ length (cond b (x ∷ kept) kept)
keeps_one true x kept = omega arith
keeps_one false x kept = omega arith

takes_one : (b : Bool) (x : ℕ) (kept : List ℕ) → b ≡ true → length (cond b (x ∷ kept) kept) ≡ suc (length kept)
takes_one b x kept e = ap (λ (c : Bool). length (cond c (x ∷ kept) kept)) e

one_passes_from : (f : ℕ → Bool) (a n x : ℕ) → a ≤ x → x < a + n → f x ≡ true → 1 ≤ length (filter f (range_with_len a n))
one_passes_from f a zero x low high passes = absurd (omega arith)
one_passes_from f a (suc n) x low high passes =
    let rest = filter f (range_with_len (a + 1) n) in
    elim (cases_eq a x) [
      | inl same ↦ let more = takes_one (f a) a rest (ap f same ∙ passes) in omega arith
      | inr ne ↦
          let later = one_passes_from f (a + 1) n x (omega arith) (omega arith) passes in
          let more = keeps_one (f a) a rest in
          omega arith
    ]

two_pass_from : (f : ℕ → Bool) (a n x y : ℕ) → a ≤ x → x < y → y < a + n → f x ≡ true → f y ≡ true → 2 ≤ length (filter f (range_with_len a n))
two_pass_from f a zero x y low order high first second = absurd (omega arith)
two_pass_from f a (suc n) x y low order high first second =
    let rest = filter f (range_with_len (a + 1) n) in
    elim (cases_eq a x) [
      | inl same ↦
          let more = takes_one (f a) a rest (ap f same ∙ first) in
          let later = one_passes_from f (a + 1) n y (omega arith) (omega arith) second in
          omega arith
      | inr ne ↦
          let later = two_pass_from f (a + 1) n x y (omega arith) order (omega arith) first second in
          let more = keeps_one (f a) a rest in
          omega arith
    ]

-- so a block that is reached in two roles has the rule Role
several_bad : (graph : Graph) (image : List (List ℕ)) (b x y : ℕ) → x < y → y < 16 → is_reached graph image (pair b x) ≡ true → is_reached graph image (pair b y) ≡ true
    → walk_bad graph image b r.Role ≡ true
unfolding walk_bad roles_of
several_bad graph image b x y order within first second =
    let test = λ (role : ℕ). is_reached graph image (pair b role) in
    let two = two_pass_from test 0 16 x y (omega arith) order (omega arith) first second in
    or_right (list_any (λ role. graph.bad role b (block_at image b) r.Role) (filter test (range_with_len 0 16))) _
    (ap (λ (x : Bool). x && true) (lt-ltb 1 (length (filter test (range_with_len 0 16))) two))

-- nor a bad rule in a role in which it is reached
role_bad : (graph : Graph) (image : List (List ℕ)) (b role : ℕ) (broken : Rule) → role < 16 → is_reached graph image (pair b role) ≡ true
    → graph.bad role b (block_at image b) broken ≡ true → walk_bad graph image b broken ≡ true
unfolding walk_bad roles_of
role_bad graph image b role broken within reached e =
    let bad = λ (s : ℕ). graph.bad s b (block_at image b) broken in
    let test = λ (s : ℕ). is_reached graph image (pair b s) in
    or_left (list_any bad (filter test (range_with_len 0 16))) _
    (any_kept bad test (range_with_len 0 16) ∙ passes_below (λ s. test s && bad s) 16 role within (and_from _ _ reached e))

pub clean_by : (graph : Graph) (image : List (List ℕ)) → ((b : ℕ) (rule : Rule) → b < graph.nr → walk_bad graph image b rule ≡ false) → IsClean graph image
clean_by graph image none = record {
  alone = λ p q small first second same.
      let b = block_of q in
      let first' : is_reached graph image (pair b (role_of p)) ≡ true = ap (is_reached graph image) (let e : pair b (role_of p) ≡ p = omega arith in e) ∙ first in
      let second' : is_reached graph image (pair b (role_of q)) ≡ true = ap (is_reached graph image) (let e : pair b (role_of q) ≡ q = omega arith in e) ∙ second in
      elim (cases_eq (role_of p) (role_of q)) [
        | inl e ↦ omega arith
        | inr ne ↦ elim (cases_lt (role_of p) (role_of q)) [
          | inl less ↦ absurd (both_ways _ (none b r.Role small) (several_bad graph image b (role_of p) (role_of q) less (omega arith) first' second'))
          | inr more ↦ absurd (both_ways _ (none b r.Role small) (several_bad graph image b (role_of q) (role_of p) (omega arith) (omega arith) second' first'))
        ]
      ];
  sound = λ b role small within reached broken. elim (cases_Bool (graph.bad role b (block_at image b) broken)) [
    | inl e ↦ absurd (both_ways _ (none b broken small) (role_bad graph image b role broken within reached e))
    | inr e ↦ e
  ];
}

-- and so of an audit without a rule
pub clean_of : (graph : Graph) (image : List (List ℕ)) (audit : Audit) → IsWalked graph image audit
    → ((b : ℕ) (rule : Rule) → b < graph.nr → has_rule_at audit b rule ≡ false) → IsClean graph image
clean_of graph image audit walked sound = clean_by graph image (λ b rule small. sym (walked.rules b rule small) ∙ sound b rule small)

-- so the nodes of the trees can be settled, and each block counts as fit
pub settleable_of : (graph : Graph) (image : List (List ℕ)) → IsLawful graph → IsClean graph image → AreSettleable graph image (is_node graph image) (λ c. true)
settleable_of graph image lawful clean = record {
  alone = λ p q first second same.
      let reached = (and_parts (is_reached graph image q) (graph.is_tree (role_of q)) second).0 in
      let small = (reached_within graph image q lawful reached).1 in
      clean.alone p q (omega arith) (and_parts (is_reached graph image p) (graph.is_tree (role_of p)) first).0 reached same;
  sound = λ b role small within node fit. clean.sound b role small within (and_parts (is_reached graph image (pair b role)) (graph.is_tree (role_of (pair b role))) node).0;
  closed = any_child_node graph image lawful;
}
