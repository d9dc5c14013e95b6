-- A pool's format of so many blocks sees the same in the nodes of its trees as one of more blocks.
use Rattle.std.proofs.Common.{◌≡◌, inl, inr, ℕ, ◌<◌, ◌≤◌, false, not, nat_eq, nat_lt, List, [], ◌∷◌, refl, sym, ap, subst, arith}
use Rattle.std.specs.List.{AllByRecursion, list_any, range_with_len}
use Rattle.std.proofs.lemmas.Bool.{cases_eq, cond_both, lt-ltb, or_from, or_parts}
use Rattle.pd_kinds.specs.Field.{has_checksum}
use Rattle.pd_kinds.specs.Graph.{Edge, has_edge_outside, is_outside, Graph}
use Rattle.pd_kinds.specs.Layout.{Tree, tree, graph_of, is_bad, node_entries_of, tree_bad, tree_edges, tree_tests}
use Rattle.pd_kinds.specs.Node.{Entry, child_at, entry_count, is_inner_node, node_salt}
use Rattle.pd_kinds.specs.Rule.{all_rules}
use Rattle.pd_kinds.specs.ThinFormat.{thin_layout}
use Rattle.pd_kinds.proofs.ListLemmas.{all_flat_map, all_map, all_of}
use Rattle.pd_kinds.proofs.SoundLemmas.{inside_from, none_broken, tests_after_one}
use Rattle.pd_kinds.specs.declared.rule.Rule.TheVariants as r

-- the roles of the mapping tree, of a device's mappings and of the details
pub record IsDeviceRole (role : ℕ) : Type 0 where
  pub low : 2 ≤ role
  pub high : role < 5

-- a role of a tree, whose entries lead to such roles alone, whatever the number of blocks
pub record IsTreeIn (data_blocks role : ℕ) : Type 0 where
  pub nodes : Tree
  pub at : (nr : ℕ) → thin_layout nr data_blocks role ≡ tree nodes
  pub leads : (e : Entry) → AllByRecursion (λ (x : Edge). IsDeviceRole x.role) (nodes.leaf_edges e)

pub tree_in : (data_blocks role : ℕ) → IsDeviceRole role → IsTreeIn data_blocks role
unfolding thin_layout
tree_in data_blocks role is =
    let low = is.low in
    let high = is.high in
    elim (cases_eq role 2) [
      | inl e ↦ subst (IsTreeIn data_blocks) (sym e) (record { nodes = _; at = λ nr. refl; leads = λ x. (record { low = omega arith; high = omega arith }, tt) })
      | inr other ↦ elim (cases_eq role 3) [
        | inl e ↦ subst (IsTreeIn data_blocks) (sym e) (record { nodes = _; at = λ nr. refl; leads = λ x. tt })
        | inr ne ↦ subst (IsTreeIn data_blocks) (let e : 4 ≡ role = omega arith in e) (record { nodes = _; at = λ nr. refl; leads = λ x. tt })
      ]
    ]

-- what is inside fewer blocks is inside more
inside_more : (n m b : ℕ) → n ≤ m → is_outside n b ≡ false → is_outside m b ≡ false
inside_more n m b more inside =
    let parts = inside_from n b inside in
    let below = parts.1 in
    let some = parts.0 in
    or_from (nat_eq b 0) (not (nat_lt b m)) (or_parts (nat_eq b 0) _ inside).0 (ap not (lt-ltb b m (omega arith)))

edges_inside : (n m : ℕ) (edges : List Edge) → n ≤ m → has_edge_outside n edges ≡ false → has_edge_outside m edges ≡ false
unfolding has_edge_outside
edges_inside n m [] more inside = refl
edges_inside n m (e ∷ edges) more inside =
    let parts = or_parts (is_outside n e.block) _ inside in
    or_from (is_outside m e.block) _ (inside_more n m e.block more parts.0) (edges_inside n m edges more parts.1)

module _ (n m data_blocks : ℕ) (more : n ≤ m) (role place : ℕ) (block : List ℕ) (is_role : IsDeviceRole role)
    (sound : is_bad n role (thin_layout n data_blocks role) place block ≡ false) where
  abbrev is : IsTreeIn data_blocks role
  is = tree_in data_blocks role is_role

  abbrev here : Graph
  here = graph_of 11 n data_blocks (thin_layout n data_blocks)

  abbrev there : Graph
  there = graph_of 11 m data_blocks (thin_layout m data_blocks)

  sound_there : is_bad m role (thin_layout m data_blocks role) place block ≡ false
  unfolding is_bad tree_bad tree_tests
  sound_there =
      let bad_here = rw (is.at n) at sound in
      let tests = tests_after_one r.Checksum (not (has_checksum block node_salt)) (tree_tests n role is.nodes place block)
      (none_broken (tree_bad n role is.nodes place block) bad_here) in
      let inside = edges_inside n m (tree_edges role is.nodes block) more tests.1.0 in
      rw (is.at m, inside) (rw (is.at n, tests.1.0) at sound)

  pub unbroken_more : list_any (there.bad role place block) all_rules ≡ false
  unfolding graph_of is_bad
  unbroken_more = sound_there

  pub inner_more : there.is_inner role place block ≡ here.is_inner role place block
  unfolding graph_of
  inner_more = rw (sound_there, sound, is.at m, is.at n) refl

  pub edges_more : there.edges role place block ≡ here.edges role place block
  unfolding graph_of
  edges_more = rw (sound_there, sound, is.at m, is.at n) refl

  pub keys_more : there.keys role place block ≡ here.keys role place block
  unfolding graph_of
  keys_more = rw (sound_there, sound, is.at m, is.at n) refl

  -- and all edges lead to such roles
  pub edges_in_trees : AllByRecursion (λ (x : Edge). IsDeviceRole x.role) (here.edges role place block)
  unfolding graph_of tree_edges
  edges_in_trees =
      rw (sound, is.at n)
      (cond_both (is_inner_node block) _ _ (AllByRecursion (λ (x : Edge). IsDeviceRole x.role))
      (λ inner. all_map (λ (i : ℕ). record { role = role; block = child_at block i }) (λ (x : Edge). IsDeviceRole x.role) (λ i. is_role) (range_with_len 0 (entry_count is.nodes.size block)))
      (λ leaf. all_flat_map is.nodes.leaf_edges (λ (x : Edge). IsDeviceRole x.role) (node_entries_of is.nodes.size block)
      (all_of (λ (e : Entry). AllByRecursion (λ (x : Edge). IsDeviceRole x.role) (is.nodes.leaf_edges e)) is.leads (node_entries_of is.nodes.size block))))
