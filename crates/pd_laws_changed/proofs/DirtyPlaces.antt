-- The blocks that say what is dirty are those that the entries of one tree name.
use Rattle.std.proofs.Common.{◌≡◌, ◌↔◌, ◌⊎◌, inl, inr, ℕ, zero, suc, ◌+◌, ◌*◌, ◌<◌, ◌≤◌, Bool, true, false, nat_eq, cond, List, [], ◌∷◌, map, filter, refl, sym, subst, ◌∙◌, arith, eq-eqb}
use Rattle.std.specs.List.{AllByRecursion, flat_map, list_any, range_with_len}
use Rattle.std.proofs.lemmas.Bool.{both_ways, cases_Bool, eqb-false, eqb-true, or_cases, or_left, or_right, cases_eq}
use Rattle.pd_kinds.specs.Graph.{Edge, Graph, block_at, block_of, edges_of, is_inner_pair, is_reached, next, nodes, pair, role_of, children, is_deep}
use Rattle.pd_kinds.specs.Lawful.{IsLawful, IsWithin}
use Rattle.pd_kinds.specs.Layout.{leaf_entries, node_entries_of}
use Rattle.pd_kinds.specs.Node.{Entry}
use Rattle.pd_kinds.specs.Paths.{IsOnPath, start, edge}
use Rattle.pd_kinds.specs.Stages.{IsReached}
use Rattle.pd_kinds.specs.CacheFormat.{cache_fields, cache_graph}
use Rattle.pd_kinds.specs.Trees.{entries_below}
use Rattle.pd_kinds.proofs.NumberLemmas.{same_test}
use Rattle.pd_kinds.specs.InOrder.{AreInOrder}
use Rattle.pd_kinds.proofs.ListLemmas.{all_from, all_from_two}
use Rattle.pd_tree.specs.Search.{IsCleanPair, IsTreeTo}
use Rattle.pd_tree.proofs.TreeLemmas.{leaf_edges_at, tree_at}
use Rattle.pd_laws_laid.proofs.ListLemmas.{all_pairs, holds_of_found}
use Rattle.pd_laws_changed.proofs.EdgeRoles.{CanLead, IsRoot, edges_lead, next_of_tree, not_next, some_next, super_leads, IsDown, further, is_gathered, short}
use Rattle.pd_laws_changed.proofs.EdgeRoles.IsDown.{at_once}

-- what a list of places has is in the range, and passes both tests
pub record IsFoundIn (test found : ℕ → Bool) (least end b : ℕ) : Type 0 where
  pub pair_is : ℕ
  pub from : least ≤ pair_is
  pub below : pair_is < end
  pub passes : test pair_is ≡ true
  pub reached : found pair_is ≡ true
  pub block : block_of pair_is ≡ b

pub found_in : (test found : ℕ → Bool) (a n b : ℕ) → list_any (λ t. nat_eq t b) (map block_of (filter test (filter found (range_with_len a n)))) ≡ true
    → IsFoundIn test found a (a + n) b
found_in test found a zero b some = absurd (both_ways false refl some)
found_in test found a (suc n) b some = elim (cases_Bool (found a)) [
  | inr missed ↦ later (found_in test found (a + 1) n b (rw missed at some))
  | inl reached ↦ elim (cases_Bool (test a)) [
    | inr fails ↦ later (found_in test found (a + 1) n b (rw (reached, fails) at some))
    | inl passes ↦ elim (or_cases (nat_eq (block_of a) b) _ (rw (reached, passes) at some)) [
      | inl here ↦ record { pair_is = a; from = omega arith; below = omega arith; passes = passes; reached = reached; block = eqb-true (block_of a) b here }
      | inr behind ↦ later (found_in test found (a + 1) n b behind)
    ]
  ]
]
  where
    later : IsFoundIn test found (a + 1) (a + 1 + n) b → IsFoundIn test found a (a + suc n) b
    later is =
        let from = is.from in
        let below = is.below in
        record { pair_is = is.pair_is; from = omega arith; below = omega arith; passes = is.passes; reached = is.reached; block = is.block }

pub is_in : (test found : ℕ → Bool) (a n p : ℕ) → a ≤ p → p < a + n → test p ≡ true → found p ≡ true
    → list_any (λ t. nat_eq t (block_of p)) (map block_of (filter test (filter found (range_with_len a n)))) ≡ true
is_in test found a zero p from below passes reached = absurd (omega arith)
is_in test found a (suc n) p from below passes reached = elim (cases_Bool (nat_eq a p)) [
  | inl here ↦ let same = eqb-true a p here in rw (same, reached, passes) (or_left (nat_eq (block_of p) (block_of p)) _ (eq-eqb (block_of p) (block_of p) refl))
  | inr other ↦
      let apart = eqb-false a p other in
      let rest = is_in test found (a + 1) n p (omega arith) (omega arith) passes reached in
      elim (cases_Bool (found a)) [
        | inr missed ↦ rw missed rest
        | inl there ↦ elim (cases_Bool (test a)) [
          | inr fails ↦ rw (there, fails) rest
          | inl also ↦ rw (there, also) (or_right (nat_eq (block_of a) (block_of p)) _ rest)
        ]
      ]
]

-- what a filter keeps of a range has each number that passes
pub kept_in : (test : ℕ → Bool) (a n d : ℕ) → a ≤ d → d < a + n → test d ≡ true → list_any (λ x. nat_eq x d) (filter test (range_with_len a n)) ≡ true
kept_in test a zero d from below passes = absurd (omega arith)
kept_in test a (suc n) d from below passes = elim (cases_eq a d) [
  | inl same ↦ rw (same, passes) (or_left (nat_eq d d) _ (eq-eqb d d refl))
  | inr apart ↦
      let rest = kept_in test (a + 1) n d (omega arith) (omega arith) passes in
      elim (cases_Bool (test a)) [
        | inl kept ↦ rw kept (or_right (nat_eq a d) _ rest)
        | inr missed ↦ rw missed rest
      ]
]

-- an entry with a value
pub any_value : (P : ℕ → Type 0) (b : ℕ) (es : List Entry) → AllByRecursion (λ (e : Entry). P e.value) es → list_any (λ (e : Entry). nat_eq e.value b) es ≡ true → P b
any_value P b [] all some = absurd (both_ways false refl some)
any_value P b (e ∷ es) all some = elim (or_cases (nat_eq e.value b) _ some) [
  | inl here ↦ rw (eqb-true e.value b here) at all.0
  | inr later ↦ any_value P b es all.1 later
]

-- the entry whose edge leads to a pair
pub any_named : (target p : ℕ) → target < 16 → (es : List Entry)
    → list_any (λ t. nat_eq t p) (map (λ (edge : Edge). pair edge.block edge.role) (flat_map (λ (e : Entry). record { role = target; block = e.value } ∷ []) es)) ≡ true
    → list_any (λ (e : Entry). nat_eq e.value (block_of p)) es ≡ true
any_named target p few [] some = absurd (both_ways false refl some)
any_named target p few (e ∷ es) some = elim (or_cases (nat_eq (pair e.value target) p) _ some) [
  | inl here ↦
      let same : pair e.value target ≡ p = eqb-true (pair e.value target) p here in
      let block : e.value ≡ block_of p = omega arith in
      or_left (nat_eq e.value (block_of p)) _ (eq-eqb e.value (block_of p) block)
  | inr later ↦ or_right (nat_eq e.value (block_of p)) _ (any_named target p few es later)
]

-- children are what an inner node leads to, and only an inner node has them
pub next_of_child : (inner : Bool) (xs : List ℕ) (c : ℕ) → list_any (λ t. nat_eq t c) (cond inner xs []) ≡ true → inner ≡ true
next_of_child true xs c some = refl
next_of_child false xs c some = absurd (both_ways false refl some)

module _ (image : List (List ℕ)) (tree root : ℕ) (is_one : (tree ≡ 1) ⊎ (tree ≡ 10))
    (lawful : IsLawful (cache_graph (block_at image 0)))
    (names_root : (e : Edge) → IsRoot (cache_fields (block_at image 0)) e → e.role ≡ tree → e.block ≡ root)
    (not_named : (e : Edge) → IsRoot (cache_fields (block_at image 0)) e → e.role ≡ suc tree → ⊥)
    (no_tree : (cache_graph (block_at image 0)).is_tree (suc tree) ≡ false) where
  abbrev graph : Graph
  graph = cache_graph (block_at image 0)

  -- what is known of a pair that an edge leads to from another one
  record IsFrom (q p : ℕ) : Type 0 where
    pub some : role_of p ≡ 0 → ⊥
    pub known : role_of p < graph.roles
    pub node : role_of p ≡ tree → ((role_of q ≡ 0) × (p ≡ pair root tree)) ⊎ ((role_of q ≡ tree) × (is_inner_pair graph image q ≡ true))
    pub words : role_of p ≡ suc tree → (role_of q ≡ tree) × (is_inner_pair graph image q ≡ false)

  -- the first pair is the only one with role 0, and those of the tree are below its root
  record IsKnown (p : ℕ) : Type 0 where
    pub start : role_of p ≡ 0 → p ≡ 0
    pub known : role_of p < graph.roles
    pub below : role_of p ≡ tree → (j : ℕ) × IsDown (children graph image) j (pair root tree) p

  -- an edge of the superblock, and one of any other block
  from_super : (q : ℕ) (e : Edge) → role_of q ≡ 0 → IsRoot (cache_fields (block_at image 0)) e → IsWithin graph e → IsFrom q (pair e.block e.role)
  from_super q e zero_is root_is within =
      let few = lawful.few_roles in
      let role_known = within.known in
      let role : role_of (pair e.block e.role) ≡ e.role = omega arith in
      record {
        some = λ is. root_is.some (sym role ∙ is);
        known = omega arith;
        node = λ is. inl (zero_is, let same = sym role ∙ is in let block = names_root e root_is same in rw (block, same) refl);
        words = λ is. absurd (not_named e root_is (sym role ∙ is));
      }

  -- an inner node leads to its own role, any other block to later ones
  abbrev IsByKind : ℕ → Edge → Type 0
  IsByKind q e = ((is_inner_pair graph image q ≡ true) × (e.role ≡ role_of q)) ⊎ ((is_inner_pair graph image q ≡ false) × (role_of q < e.role))

  by_kind : (q : ℕ) → role_of q < graph.roles → AllByRecursion (IsByKind q) (edges_of graph image q)
  by_kind q known =
      let laws = lawful.each (role_of q) (block_of q) (block_at image (block_of q)) known in
      elim (cases_Bool (is_inner_pair graph image q)) [
        | inl inner ↦ all_from (λ (e : Edge). e.role ≡ role_of q) (IsByKind q) (λ e same. inl (inner, same)) (edges_of graph image q) (laws.inner_edges inner)
        | inr other ↦ all_from (λ (e : Edge). role_of q < e.role) (IsByKind q) (λ e later. inr (other, later)) (edges_of graph image q) (laws.other_edges other)
      ]

  -- one to its own role is that of an inner node
  own_role : (q : ℕ) (e : Edge) → IsByKind q e → e.role ≡ role_of q → is_inner_pair graph image q ≡ true
  own_role q e kind same = elim kind [ inl inner ↦ inner.0 | inr other ↦ let later = other.1 in absurd (omega arith) ]

  -- one to another is not
  other_role : (q : ℕ) (e : Edge) → IsByKind q e → role_of q < e.role → is_inner_pair graph image q ≡ false
  other_role q e kind later = elim kind [ inl inner ↦ let same = inner.1 in absurd (omega arith) | inr other ↦ other.0 ]

  no_inner : (q : ℕ) → role_of q < graph.roles → role_of q ≡ suc tree → is_inner_pair graph image q ≡ true → ⊥
  no_inner q known role inner =
      both_ways (graph.is_tree (suc tree)) no_tree (rw role at ((lawful.each (role_of q) (block_of q) (block_at image (block_of q)) known).inner_tree inner))

  from_other : (q s : ℕ) (e : Edge) → role_of q ≡ suc s → role_of q < graph.roles → CanLead (suc s) e → IsWithin graph e → IsByKind q e → IsFrom q (pair e.block e.role)
  from_other q s e role_is known leads within kind =
      let few = lawful.few_roles in
      let role_known = within.known in
      let role : role_of (pair e.block e.role) ≡ e.role = omega arith in
      record {
        some = λ is. elim leads [ inl own ↦ omega arith | inr later ↦ some_next s (sym later ∙ (sym role ∙ is)) ];
        known = omega arith;
        node = λ is. elim leads [
          | inl own ↦ inr (role_is ∙ (sym own ∙ (sym role ∙ is)), own_role q e kind (own ∙ sym role_is))
          | inr later ↦ absurd (not_next tree s is_one (sym later ∙ (sym role ∙ is)))
        ];
        words = λ is. elim leads [
          | inl own ↦ absurd (no_inner q known (role_is ∙ (sym own ∙ (sym role ∙ is))) (own_role q e kind (own ∙ sym role_is)))
          | inr later ↦
              let tree_is = next_of_tree tree s is_one (sym later ∙ (sym role ∙ is)) in
              (role_is ∙ tree_is, other_role q e kind (omega arith))
        ];
      }

  -- what an edge of a known pair leads to
  step_by : (r q p : ℕ) → role_of q ≡ r → IsKnown q → list_any (λ t. nat_eq t p) (next graph image q) ≡ true → IsFrom q p
  unfolding next
  step_by zero q p role known leads =
      let within = (lawful.each (role_of q) (block_of q) (block_at image (block_of q)) known.known).within in
      let roots = subst (λ (x : ℕ). AllByRecursion (IsRoot (cache_fields (block_at image 0))) (edges_of graph image x)) (sym (known.start role)) (super_leads (block_at image 0) (block_at image 0)) in
      holds_of_found (IsFrom q) (λ (e : Edge). pair e.block e.role) (edges_of graph image q) p
      (all_from_two (IsRoot (cache_fields (block_at image 0))) (IsWithin graph) (λ (e : Edge). IsFrom q (pair e.block e.role)) (λ e root_is inside. from_super q e role root_is inside) (edges_of graph image q) roots within) leads
  step_by (suc s) q p role known leads =
      let within = (lawful.each (role_of q) (block_of q) (block_at image (block_of q)) known.known).within in
      let lead : AllByRecursion (CanLead (suc s)) (edges_of graph image q) =
      subst (λ (r : ℕ). AllByRecursion (CanLead (suc s)) (graph.edges r (block_of q) (block_at image (block_of q)))) (sym role) (edges_lead (block_at image 0) (block_at image (block_of q)) s (block_of q)) in
      holds_of_found (IsFrom q) (λ (e : Edge). pair e.block e.role) (edges_of graph image q) p
      (all_from_two (λ (e : Edge). CanLead (suc s) e × IsWithin graph e) (IsByKind q) (λ (e : Edge). IsFrom q (pair e.block e.role))
      (λ e both kind. from_other q s e role known.known both.0 both.1 kind) (edges_of graph image q)
      (all_pairs (CanLead (suc s)) (IsWithin graph) (edges_of graph image q) lead within) (by_kind q known.known)) leads

  -- all that paths lead to is known
  known_on_path : (p : ℕ) → IsOnPath (16 * graph.nr) (next graph image) p → IsKnown p
  unfolding children
  known_on_path p start =
      let some = lawful.some_role in
      record { start = λ _. refl; known = omega arith; below = λ is. absurd (elim is_one [ inl one ↦ omega arith | inr ten ↦ omega arith ]) }
  known_on_path p (edge q p' within path leads) =
      let known = known_on_path q path in
      let from = step_by (role_of q) q p' refl known leads in
      record {
        start = λ is. absurd (from.some is);
        known = from.known;
        below = λ is. elim (from.node is) [
          | inl top ↦ (0, rw top.1 (at_once (pair root tree)))
          | inr inner ↦
              let above = known.below inner.0 in
              (suc above.0, further (children graph image) above.0 (pair root tree) q p' above.1 (rw inner.1 leads))
        ];
      }

  module _ (paths : (q : ℕ) → (is_reached graph image q ≡ true) ↔ IsOnPath (16 * graph.nr) (next graph image) q) (ordered : AreInOrder graph image)
      (to : IsTreeTo graph tree 8 (suc tree) (λ v. v)) (reached : IsReached graph image root tree) where
    few : tree < 15
    few = elim is_one [ inl one ↦ omega arith | inr ten ↦ omega arith ]

    -- a leaf that leads to a block has an entry that names it
    leaf_names : (q p : ℕ) → IsReached graph image (block_of q) (role_of q) → role_of q ≡ tree → is_inner_pair graph image q ≡ false
        → list_any (λ t. nat_eq t p) (next graph image q) ≡ true → list_any (λ (e : Entry). nat_eq e.value (block_of p)) (leaf_entries 8 (block_at image (block_of q))) ≡ true
    unfolding next leaf_entries
    leaf_names q p there role leaf leads =
        let few_roles = few in
        let whole : pair (block_of q) tree ≡ q = omega arith in
        let clean = ordered.well_formed (block_of q) (role_of q) there in
        let clean_pair : IsCleanPair graph image (pair (block_of q) tree) = rw whole clean in
        let leaf_pair : is_inner_pair graph image (pair (block_of q) tree) ≡ false = rw whole leaf in
        let node = sym ((tree_at graph image tree 8 to.is_role).inner (block_of q) clean_pair) ∙ leaf_pair in
        let edges = leaf_edges_at graph image tree 8 (suc tree) (λ v. v) (block_of q) to node clean_pair in
        let leads_to = λ (es : List Edge). list_any (λ t. nat_eq t p) (map (λ (edge : Edge). pair edge.block edge.role) es) ≡ true in
        let by_tree = subst (λ (r : ℕ). leads_to (graph.edges r (block_of q) (block_at image (block_of q)))) role leads in
        rw node (any_named (suc tree) p (omega arith) (node_entries_of 8 (block_at image (block_of q))) (subst leads_to edges by_tree))

    -- so the tree has it
    named_by : (p : ℕ) → IsOnPath (16 * graph.nr) (next graph image) p → role_of p ≡ suc tree
        → list_any (λ (e : Entry). nat_eq e.value (block_of p)) (entries_below graph image 8 tree root) ≡ true
    unfolding entries_below is_deep children
    named_by p start role = absurd (omega arith)
    named_by p (edge q p' within path leads) role =
        let known = known_on_path q path in
        let from = step_by (role_of q) q p' refl known leads in
        let leaf = from.words role in
        let down = known.below leaf.0 in
        let whole : pair (block_of q) (role_of q) ≡ q = omega arith in
        let there : IsReached graph image (block_of q) (role_of q) = record { block = omega arith; within = omega arith; found = rw whole ((paths q).1 path) } in
        is_gathered (children graph image) (is_inner_pair graph image) (λ x. leaf_entries 8 (block_at image (block_of x))) (λ (e : Entry). nat_eq e.value (block_of p'))
        (λ x c some. next_of_child (is_inner_pair graph image x) (next graph image x) c some)
        down.0 63 (pair root tree) q down.1 (short (children graph image) down.0 63 (pair root tree) q down.1 (ordered.not_deep root tree reached)) leaf.1
        (leaf_names q p' there leaf.0 leaf.1 leads)

    -- and what its entries name is reached
    pub places_are_named : (b : ℕ) → AllByRecursion (λ (e : Entry). IsReached graph image e.value (suc tree)) (entries_below graph image 8 tree root)
        → list_any (λ place. nat_eq place b) (map block_of (filter (λ p. nat_eq (role_of p) (suc tree)) (nodes graph image)))
        ≡ list_any (λ (e : Entry). nat_eq e.value b) (entries_below graph image 8 tree root)
    unfolding nodes
    places_are_named b named =
        let few_roles = few in
        same_test _ _
        (λ some.
        let found = found_in (λ p. nat_eq (role_of p) (suc tree)) (is_reached graph image) 0 (16 * graph.nr) b some in
        rw found.block at (named_by found.pair_is ((paths found.pair_is).0 found.reached) (eqb-true (role_of found.pair_is) (suc tree) found.passes)))
        (λ some.
        let there = any_value (λ (c : ℕ). IsReached graph image c (suc tree)) b (entries_below graph image 8 tree root) named some in
        let below = there.block in
        let block : block_of (pair b (suc tree)) ≡ b = omega arith in
        let role : role_of (pair b (suc tree)) ≡ suc tree = omega arith in
        rw block at (is_in (λ p. nat_eq (role_of p) (suc tree)) (is_reached graph image) 0 (16 * graph.nr) (pair b (suc tree)) (omega arith) (omega arith) (eq-eqb _ _ role) there.found))
