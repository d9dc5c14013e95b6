-- Blocks that are laid out are all that is reached.
use Rattle.std.proofs.Common.{◌≡◌, inl, inr, ℕ, zero, suc, ◌+◌, ◌-◌, ◌<◌, ◌≤◌, true, List, ◌∷◌, map, filter, sym, ◌∙◌, ap, arith, zero-le, ◌*◌, Bool, false, nat_eq, get_or, [], ◌++◌, length, refl}
use Rattle.std.specs.List.{range_with_len, AllByRecursion, flat_map, list_any, count_by}
use Rattle.std.proofs.lemmas.Bool.{cases_Bool, cases_lt, cases_eq, both_ways, or_left, or_right}
use Rattle.std.proofs.Math.Nat.{suc-mul, mul-le-mul_right}
use Rattle.std.proofs.lemmas.List.{get_or_at, get_or_past, length-map, length-append, append_assoc}
use Rattle.std.proofs.lemmas.List.Folds.{flat_map-map}
use Rattle.pd_kinds.specs.Graph.{reached_from, Edge, Graph, block_at, block_of, role_of, pair, edges_of, data_refs_of, next, is_inner_pair, is_reached, nodes, references, meta_count, data_count, is_deep, is_in_range}
use Rattle.pd_kinds.specs.Paths.{IsOnPath, start, edge}
use Rattle.pd_kinds.proofs.PathLemmas.{path_from_reached, reached_from_path}
use Rattle.pd_kinds.specs.declared.rule.Rule.{Rule}
use Rattle.pd_kinds.specs.Stages.{IsReached}
use Rattle.pd_kinds.specs.Lawful.{IsLawful}
use Rattle.pd_kinds.proofs.ListLemmas.{all_from, all_from_two}
use Rattle.pd_laid.specs.Laid.{LaidBlock, named_by, data_named_by}
use Rattle.pd_laid.proofs.NodeFacts.{among_mapped, role_pair}
use Rattle.pd_laws_laid.specs.LaidOut.{IsForest, AllFrom, role_at, LeadsBelow, IsNamed, IsFitting, IsLaidOut, AreLaidInOrder}
use Rattle.pd_laws_laid.proofs.ListLemmas.{in_range_of, holds_of_found, any_both, all_pairs, from_follows, from_pairs, by_place, range_agree}

-- The nodes of a forest are all that is reached.

module _ (n : ℕ) (step : ℕ → List ℕ) (at rank : ℕ → ℕ) (need top : ℕ) (forest : IsForest n step at rank need top) where
  -- a path leads to each node
  on_path : (k b : ℕ) → top ≤ rank b + k → b < need → IsOnPath n step (at b)
  on_path zero b far within = absurd (omega (arith, forest.bounded b within))
  on_path (suc k) b far within = elim (cases_eq b 0) [
    | inl root ↦ rw (root, forest.first) start
    | inr other ↦
        let parent = forest.named b (omega arith) within in
        edge (at parent.0) (at b) (forest.below parent.0 parent.1) (on_path k parent.0 (omega (arith, parent.2)) parent.1) parent.3
  ]

  -- and to nothing else
  only_nodes : (p : ℕ) → IsOnPath n step p → (b : ℕ) × (b < need) × (p ≡ at b)
  only_nodes p start = (0, omega (arith, forest.some), sym forest.first)
  only_nodes p (edge q p' small path leads) =
      let from = only_nodes q path in
      let e = from.2 in
      forest.closed from.0 p' from.1 (rw e at leads)

  pub reached_node : (b : ℕ) → b < need → reached_from n step 0 n (at b) ≡ true
  reached_node b within = reached_from_path n step (at b) (on_path top b (omega arith) within)

  pub node_reached : (p : ℕ) → reached_from n step 0 n p ≡ true → (b : ℕ) × (b < need) × (p ≡ at b)
  node_reached p e = only_nodes p (path_from_reached n step n p e)

  -- a filter over a range finds the nodes from place m on, where those before it are below the range
  nodes_in : (k a m : ℕ) → m ≤ need → ((b : ℕ) → b < m → at b < a) → ((b : ℕ) → m ≤ b → b < need → a ≤ at b) → ((b : ℕ) → b < need → at b < a + k)
      → filter (reached_from n step 0 n) (range_with_len a k) ≡ map at (range_with_len m (need - m))
  nodes_in zero a m most before after below = elim (cases_lt m need) [
    | inl some ↦ absurd (omega (arith, after m (omega arith) some, below m some))
    | inr none ↦ let e : need - m ≡ 0 = omega arith in rw e
  ]
  nodes_in (suc k) a m most before after below = elim (cases_Bool (reached_from n step 0 n a)) [
    | inl here ↦
        let found = node_reached a here in
        let b = found.0 in
        let from : m ≤ b = elim (cases_lt b m) [ inl less ↦ absurd (omega (arith, before b less)) | inr from ↦ from ] in
        let same : b ≡ m = elim (cases_eq b m) [
          | inl same ↦ same
          | inr other ↦ absurd (omega (arith, forest.ascending m b (omega arith) found.1, after m (omega arith) (omega arith)))
        ] in
        let value : a ≡ at m = found.2 ∙ ap at same in
        let count : need - m ≡ suc (need - (m + 1)) = omega arith in
        let rest = nodes_in k (a + 1) (m + 1) (omega arith)
        (λ c less. elim (cases_eq c m) [
          | inl e ↦ rw e (omega arith)
          | inr ne ↦ omega (arith, before c (omega arith))
        ])
        (λ c more within. omega (arith, forest.ascending m c (omega arith) within))
        (λ c within. omega (arith, below c within)) in
        rw (here, count) (ap (λ (xs : List ℕ). a ∷ xs) rest ∙ ap (λ (x : ℕ). x ∷ map at (range_with_len (m + 1) (need - (m + 1)))) value)
    | inr missed ↦
        rw missed
        (nodes_in k (a + 1) m most (λ c less. omega (arith, before c less))
        (λ c more within. elim (cases_eq (at c) a) [
          | inl e ↦ absurd (both_ways (reached_from n step 0 n a) missed (rw e at (reached_node c within)))
          | inr ne ↦ omega (arith, after c more within)
        ])
        (λ c within. omega (arith, below c within)))
  ]

  -- the reached numbers, ascending
  pub nodes_found : filter (reached_from n step 0 n) (range_with_len 0 n) ≡ map at (range_with_len 0 need)
  nodes_found =
      let e : need - 0 ≡ need = omega arith in
      rw e at (nodes_in n 0 0 zero-le (λ b less. absurd (omega arith)) (λ b from within. zero-le) (λ b within. omega (arith, forest.below b within)))

-- each place has the role of the block that is laid there
mapped_at : {X : Type 0} (f : X → ℕ) (front : List ℕ) (xs : List X) → AllFrom (λ q x. get_or (front ++ map f xs) q 0 ≡ f x) (length front) xs
mapped_at f front [] = tt
mapped_at f front (x ∷ xs) =
    let size : length (front ++ f x ∷ []) ≡ length front + 1 = length-append front (f x ∷ []) in
    (get_or_at front (f x) (map f xs) 0 (length front) refl, rw (append_assoc front (f x ∷ []) (map f xs), size) at (mapped_at f (front ++ f x ∷ []) xs))

pub roles_at : (blocks : List LaidBlock) → AllFrom (λ q (x : LaidBlock). role_at blocks q ≡ x.role) 0 blocks
unfolding role_at
roles_at blocks = mapped_at (λ (x : LaidBlock). x.role) [] blocks

-- a test over lists in a row
any_flat : {X Y : Type 0} → (test : Y → Bool) (f : X → List Y) (xs : List X) → list_any test (flat_map f xs) ≡ true → list_any (λ x. list_any test (f x)) xs ≡ true
any_flat test f [] e = e
any_flat test f (x ∷ xs) e = elim (any_both test (f x) (flat_map f xs) e) [
  | inl here ↦ or_left (list_any test (f x)) _ here
  | inr later ↦ or_right (list_any test (f x)) _ (any_flat test f xs later)
]

abbrev as_pair : Edge → ℕ
as_pair e = pair e.block e.role

module _ (graph : Graph) (image : List (List ℕ)) (blocks : List LaidBlock) (lawful : IsLawful graph) (laid : IsLaidOut graph image blocks) where
  abbrev need : ℕ
  need = length blocks

  abbrev at : ℕ → ℕ
  at b = pair b (role_at blocks b)

  -- a pair leads to later roles, or in its own role to earlier places
  abbrev rank : ℕ → ℕ
  rank b = (15 - role_at blocks b) * graph.nr + b

  each : AllFrom (λ q x. IsFitting graph image blocks need q x × (role_at blocks q ≡ x.role)) 0 blocks
  each = from_pairs (IsFitting graph image blocks need) (λ q (x : LaidBlock). role_at blocks q ≡ x.role) 0 blocks laid.each (roles_at blocks)

  -- what holds of each laid block in its role
  at_each : (P : ℕ → ℕ → Type 0) → ((q : ℕ) (x : LaidBlock) → IsFitting graph image blocks need q x → P q x.role) → (b : ℕ) → b < need → P b (role_at blocks b)
  at_each P follows b within =
      by_place (λ q. P q (role_at blocks q)) 0 blocks
      (from_follows (λ q x. IsFitting graph image blocks need q x × (role_at blocks q ≡ x.role)) (λ q x. P q (role_at blocks q)) 0 blocks
      (λ q low high x is. let role_is = is.1 in rw role_is (follows q x is.0)) each)
      b zero-le (omega arith)

  role_known : (b : ℕ) → role_at blocks b < graph.roles
  unfolding role_at
  role_known b = elim (cases_lt b need) [
    | inl within ↦ at_each (λ q role. role < graph.roles) (λ q x is. is.seen.known) b within
    | inr past ↦ rw (get_or_past (map (λ (x : LaidBlock). x.role) blocks) b 0 (omega (arith, length-map blocks (λ (x : LaidBlock). x.role)))) lawful.some_role
  ]

  role_small : (b : ℕ) → role_at blocks b < 16
  role_small b = omega (arith, role_known b, lawful.few_roles)

  leads_at : (b : ℕ) → b < need → AllByRecursion (LeadsBelow blocks need) (edges_of graph image (at b))
  leads_at = at_each (λ q role. AllByRecursion (LeadsBelow blocks need) (edges_of graph image (pair q role))) (λ q x is. let e = is.seen.edges_are in rw e is.leads)

  earlier_at : (b : ℕ) → b < need → is_inner_pair graph image (at b) ≡ true → AllByRecursion (λ (e : Edge). e.block < b) (edges_of graph image (at b))
  earlier_at = at_each (λ q role. is_inner_pair graph image (pair q role) ≡ true → AllByRecursion (λ (e : Edge). e.block < q) (edges_of graph image (pair q role)))
      (λ q x is inner. let e = is.seen.edges_are in rw e (is.seen.earlier inner))

  -- a pair of a greater role, or of an earlier block in the same role, is lower
  later_role : (b c : ℕ) → c < graph.nr → role_at blocks b < role_at blocks c → rank c < rank b
  later_role b c within more =
      let small = role_small c in
      let scaled : suc (15 - role_at blocks c) * graph.nr ≤ (15 - role_at blocks b) * graph.nr = mul-le-mul_right graph.nr (omega arith) in
      let split : suc (15 - role_at blocks c) * graph.nr ≡ (15 - role_at blocks c) * graph.nr + graph.nr = suc-mul (15 - role_at blocks c) graph.nr in
      omega arith

  same_role : (b c : ℕ) → c < b → role_at blocks c ≡ role_at blocks b → rank c < rank b
  same_role b c less same = rw same (omega arith)

  lower_at : (b : ℕ) → b < need → AllByRecursion (λ (e : Edge). rank e.block < rank b) (edges_of graph image (at b))
  lower_at b within =
      let p = at b in
      let own : role_of p ≡ role_at blocks b = role_pair b (role_at blocks b) (role_small b) in
      let known : role_of p < graph.roles = rw own (role_known b) in
      let laws = lawful.each (role_of p) (block_of p) (block_at image (block_of p)) known in
      let leads = leads_at b within in
      let edges = edges_of graph image p in
      elim (cases_Bool (is_inner_pair graph image p)) [
        | inl inner ↦
            all_from_two (λ (e : Edge). LeadsBelow blocks need e × (e.role ≡ role_of p)) (λ (e : Edge). e.block < b) (λ (e : Edge). rank e.block < rank b)
            (λ e is less. same_role b e.block less (is.0.role_is ∙ (is.1 ∙ own))) edges
            (all_pairs (LeadsBelow blocks need) (λ (e : Edge). e.role ≡ role_of p) edges leads (laws.inner_edges inner)) (earlier_at b within inner)
        | inr leaf ↦
            all_from_two (LeadsBelow blocks need) (λ (e : Edge). role_of p < e.role) (λ (e : Edge). rank e.block < rank b)
            (λ e is more. later_role b e.block (omega (arith, is.below, laid.fits)) (omega (arith, own, is.role_is))) edges leads (laws.other_edges leaf)
      ]

  -- where an edge leads
  closed : (b p : ℕ) → b < need → list_any (λ t. nat_eq t p) (next graph image (at b)) ≡ true → (c : ℕ) × (c < need) × (p ≡ at c)
  unfolding next
  closed b p within found =
      holds_of_found (λ p. (c : ℕ) × (c < need) × (p ≡ at c)) as_pair (edges_of graph image (at b)) p
      (all_from (LeadsBelow blocks need) (λ (e : Edge). (c : ℕ) × (c < need) × (as_pair e ≡ at c))
      (λ e is. (e.block, is.below, ap (pair e.block) (sym is.role_is))) (edges_of graph image (at b)) (leads_at b within)) found

  -- the blocks that are named
  named_at : named_by blocks ≡ flat_map (λ b. map (λ (e : Edge). e.block) (edges_of graph image (at b))) (range_with_len 0 need)
  unfolding named_by
  named_at =
      let block = λ (e : Edge). e.block in
      sym (range_agree (λ b. map block (edges_of graph image (at b))) (λ (x : LaidBlock). map block x.edges) 0 blocks
      (from_follows (λ q x. IsFitting graph image blocks need q x × (role_at blocks q ≡ x.role))
      (λ q (x : LaidBlock). map block (edges_of graph image (at q)) ≡ map block x.edges) 0 blocks
      (λ q low high x is. let role_is = is.1 in rw role_is (ap (map block) is.0.seen.edges_are)) each))

  named : (c : ℕ) → 1 ≤ c → c < need
      → (q : ℕ) × (q < need) × (rank c < rank q) × (list_any (λ t. nat_eq t (at c)) (next graph image (at q)) ≡ true)
  unfolding next
  named c from within =
      let block = λ (e : Edge). e.block in
      let is_it = λ (r : ℕ). nat_eq r c in
      let some : list_any is_it (named_by blocks) ≡ true = at_each (λ q role. 1 ≤ q → IsNamed blocks q) (λ q x is. is.named) c within from in
      let found = in_range_of (λ b. list_any is_it (map block (edges_of graph image (at b)))) 0 need
      (any_flat is_it (λ b. map block (edges_of graph image (at b))) (range_with_len 0 need) (rw named_at at some)) in
      let q = found.0 in
      let q_within : q < need = omega (arith, found.2) in
      let edges = edges_of graph image (at q) in
      let leads = leads_at q q_within in
      let among = all_from_two (LeadsBelow blocks need) (λ (e : Edge). list_any (λ t. nat_eq t (as_pair e)) (map as_pair edges) ≡ true)
      (λ (e : Edge). list_any (λ t. nat_eq t (at e.block)) (map as_pair edges) ≡ true)
      (λ e is here. let same = is.role_is in rw same here) edges leads (among_mapped as_pair edges) in
      let there = holds_of_found (λ c. (rank c < rank q) × (list_any (λ t. nat_eq t (at c)) (map as_pair edges) ≡ true)) block edges c
      (all_pairs (λ (e : Edge). rank e.block < rank q) (λ (e : Edge). list_any (λ t. nat_eq t (at e.block)) (map as_pair edges) ≡ true) edges
      (lower_at q q_within) among) found.3 in
      (q, q_within, there.0, there.1)

  bounded : (b : ℕ) → b < need → rank b < 16 * graph.nr
  bounded b within =
      let scaled : (15 - role_at blocks b) * graph.nr ≤ 15 * graph.nr = mul-le-mul_right graph.nr (omega arith) in
      omega (arith, laid.fits)

  forest : IsForest (16 * graph.nr) (next graph image) at rank need (16 * graph.nr)
  forest = record {
    some = laid.some;
    first = let first = laid.super_role in rw first refl;
    ascending = λ a b less within. omega (arith, role_small a);
    below = λ b within. omega (arith, role_small b, laid.fits);
    bounded = bounded;
    closed = closed;
    named = named;
  }

  -- what is reached stands at a laid place in its role
  reached_laid : (b r : ℕ) → IsReached graph image b r → (b < need) × (r ≡ role_at blocks b)
  unfolding is_reached
  reached_laid b r reach =
      let found = node_reached (16 * graph.nr) (next graph image) at rank need (16 * graph.nr) forest (pair b r) reach.found in
      let small = role_small found.0 in
      let within = reach.within in
      let same : b ≡ found.0 = omega (arith, found.2) in
      (omega (arith, found.1), (let e : r ≡ role_at blocks found.0 = omega (arith, found.2) in e ∙ ap (role_at blocks) (sym same)))

  laid_nodes : nodes graph image ≡ map at (range_with_len 0 need)
  unfolding nodes is_reached
  laid_nodes = nodes_found (16 * graph.nr) (next graph image) at rank need (16 * graph.nr) forest

  -- what holds of each laid block holds of each reached pair
  at_reached : (P : ℕ → ℕ → Type 0) → ((q : ℕ) (x : LaidBlock) → IsFitting graph image blocks need q x → P q x.role)
      → (b role : ℕ) → IsReached graph image b role → P b role
  at_reached P follows b role reach =
      let found = reached_laid b role reach in
      let role_is = found.1 in
      rw role_is (at_each P follows b found.0)

  -- block 0 counts once, and each other reference is named by a laid block
  references_are : references graph image ≡ 0 ∷ named_by blocks
  unfolding references
  references_are =
      let block = λ (e : Edge). e.block in
      ap (λ (rest : List ℕ). 0 ∷ rest)
      (ap (flat_map (λ p. map block (edges_of graph image p))) laid_nodes
      ∙ (flat_map-map (λ p. map block (edges_of graph image p)) at (range_with_len 0 need) ∙ sym named_at))

  data_are : flat_map (data_refs_of graph image) (nodes graph image) ≡ data_named_by blocks
  unfolding data_named_by
  data_are =
      ap (flat_map (data_refs_of graph image)) laid_nodes
      ∙ (flat_map-map (data_refs_of graph image) at (range_with_len 0 need)
      ∙ range_agree (λ b. data_refs_of graph image (at b)) (λ (x : LaidBlock). x.data_refs) 0 blocks
      (from_follows (λ q x. IsFitting graph image blocks need q x × (role_at blocks q ≡ x.role))
      (λ q (x : LaidBlock). data_refs_of graph image (at q) ≡ x.data_refs) 0 blocks
      (λ q low high x is. let role_is = is.1 in rw role_is is.0.seen.data_are) each))

  pub laid_in_order : AreLaidInOrder graph image blocks
  unfolding meta_count data_count
  laid_in_order = record {
    roles_small = role_small;
    nodes_are = laid_nodes;
    well_formed = at_reached (λ b role. (broken : Rule) → graph.bad role b (block_at image b) broken ≡ false) (λ q x is. is.seen.sound);
    one_role = λ b role other one another. (reached_laid b role one).1 ∙ sym (reached_laid b other another).1;
    not_deep = at_reached (λ b role. is_deep graph image (pair b role) ≡ false) (λ q x is. is.seen.shallow);
    in_range = at_reached (λ b role. is_inner_pair graph image (pair b role) ≡ true → is_in_range graph image (pair b role) ≡ true) (λ q x is. is.seen.in_range);
    meta_counts = λ b. ap (count_by (λ r. nat_eq r b)) references_are;
    data_counts = λ d. ap (count_by (λ r. nat_eq r d)) data_are;
  }
