-- The nodes of a tree keep what holds of a layout.
use Rattle.std.proofs.Common.{◌≡◌, ◌⊎◌, inl, inr, ℕ, ◌+◌, ◌*◌, ◌<◌, ◌≤◌, Bool, true, false, not, cond, nat_eq, nat_lt, List, [], ◌∷◌, length, map, refl, arith}
use Rattle.std.specs.List.{AllByRecursion, range_with_len, flat_map}
use Rattle.std.proofs.Math.Nat.{mul-le-mul_left, mul-le-mul_right}
use Rattle.std.proofs.lemmas.Bool.{both_ways, cond_both, and_cases, or_parts, not-false, eqb-true, eqb-false, ltb-false}
use Rattle.std.proofs.lemmas.List.FromFn.{length-map-range_with_len}
use Rattle.pd_kinds.specs.Graph.{Edge}
use Rattle.pd_kinds.specs.Node.{Entry, node_tests, entry_count, node_keys, node_entries, node_max, node_value_size, child_at, key_at, value_at, is_inner_node, are_flags_bad, is_shape_bad, is_ascending}
use Rattle.pd_kinds.specs.Layout.{Tree, tree, node_entries_of, leaf_entries, tree_edges, tree_tests, tree_bad, plain_tree}
use Rattle.pd_kinds.proofs.ListLemmas.{all_from, all_map, all_flat_map, all_of, none_passes, length-flat_map}
use Rattle.pd_kinds.proofs.SoundLemmas.{tests_after_one, second_holds, edges_inside}
use Rattle.pd_kinds.proofs.LayoutLemmas.{IsLater, IsKeptBy}

-- the size of the values of a node
abbrev pub width_of : ℕ → List ℕ → ℕ
width_of size block = cond (is_inner_node block) 8 size

-- the entries of a node fit its block
pub shape_fits : (size : ℕ) (block : List ℕ) → is_shape_bad size block ≡ false → node_entries block * (8 + width_of size block) ≤ 4064
unfolding is_shape_bad
shape_fits size block holds =
    let width = or_parts (not (nat_eq (node_value_size block) (width_of size block))) _ holds in
    let number = or_parts (nat_lt (node_max block) (node_entries block)) _ width.1 in
    let room = or_parts (nat_lt 4096 (32 + node_max block * (8 + node_value_size block))) _ number.1 in
    let same : node_value_size block ≡ width_of size block = eqb-true _ _ (not-false _ width.0) in
    let fits = ltb-false 4096 (32 + node_max block * (8 + node_value_size block)) room.0 in
    let fewer = mul-le-mul_right (8 + node_value_size block) (ltb-false (node_max block) (node_entries block) number.0) in
    rw (← same) (omega arith)

-- an inner node has an entry
pub shape_some : (size : ℕ) (block : List ℕ) → is_shape_bad size block ≡ false → is_inner_node block ≡ true → 1 ≤ node_entries block
unfolding is_shape_bad
shape_some size block holds inner =
    let width = or_parts (not (nat_eq (node_value_size block) (width_of size block))) _ holds in
    let number = or_parts (nat_lt (node_max block) (node_entries block)) _ width.1 in
    let room = or_parts (nat_lt 4096 (32 + node_max block * (8 + node_value_size block))) _ number.1 in
    elim (and_cases (is_inner_node block) (nat_eq (node_entries block) 0) room.1) [
      | inl leaf ↦ absurd (both_ways (is_inner_node block) leaf inner)
      | inr some ↦ omega (arith, eqb-false (node_entries block) 0 some)
    ]

-- so many entries with values of at least this size
pub entries_fit : (size least : ℕ) (block : List ℕ) → is_shape_bad size block ≡ false → least ≤ width_of size block
    → node_entries block * (8 + least) ≤ 4064
entries_fit size least block holds wide =
    let fewer : node_entries block * (8 + least) ≤ node_entries block * (8 + width_of size block) = mul-le-mul_left (node_entries block) (omega arith) in
    omega (arith, shape_fits size block holds)

-- values of inner nodes have 8 bytes, and those of leaves the tree's own size
pub wide_enough : (size least : ℕ) (block : List ℕ) → least ≤ 8 → least ≤ size → least ≤ width_of size block
wide_enough size least block inner leaf = cond_both (is_inner_node block) 8 size (λ n. least ≤ n) (λ _. inner) (λ _. leaf)

-- what a tree is in a role: how many edges and data blocks an entry of a leaf names, and which
pub record IsKeptTree (roles data_blocks role edges_each data_each : ℕ) (t : Tree) : Type 0 where
  pub wide : 4 ≤ t.size
  pub known : role < roles
  pub edges_fit : (edges_each ≡ 0) ⊎ ((edges_each ≡ 1) × (8 ≤ t.size))
  pub data_fit : (data_each ≡ 0) ⊎ ((data_each ≡ 1) × (8 ≤ t.size))
  pub few_edges : (e : Entry) → length (t.leaf_edges e) ≤ edges_each
  pub few_data : (e : Entry) → length (t.leaf_data e) ≤ data_each
  pub later : (e : Entry) → AllByRecursion (IsLater roles role) (t.leaf_edges e)
  pub within : (e : Entry) → t.is_beyond e ≡ false → AllByRecursion (λ d. d < data_blocks) (t.leaf_data e)

-- the entries of a node name few blocks
pub few_named : (size each count : ℕ) (block : List ℕ) → is_shape_bad size block ≡ false → count ≡ node_entries block
    → ((each ≡ 0) ⊎ ((each ≡ 1) × (8 ≤ size))) → count * each ≤ 254
few_named size each count block holds same fit = elim fit [
  | inl none ↦ rw none (omega arith)
  | inr one ↦ let bound = entries_fit size 8 block holds (wide_enough size 8 block (omega arith) one.1) in rw (one.0, same) (omega arith)
]

-- a sound node has the entries that its header says
pub count_is : (size : ℕ) (block : List ℕ) → are_flags_bad block ≡ false → is_shape_bad size block ≡ false → entry_count size block ≡ node_entries block
unfolding entry_count
count_is size block flags shape = rw (flags, shape) refl

-- the edge to child i of a node
abbrev pub child_edge : ℕ → List ℕ → ℕ → Edge
child_edge role block i = record { role = role; block = child_at block i }

-- the edges of an inner node and of a leaf
pub edges_by_kind : (role : ℕ) (t : Tree) (block : List ℕ) (P : List Edge → Type 0)
    → (is_inner_node block ≡ true → P (map (child_edge role block) (range_with_len 0 (entry_count t.size block))))
    → (is_inner_node block ≡ false → P (flat_map t.leaf_edges (node_entries_of t.size block)))
    → P (tree_edges role t block)
unfolding tree_edges
edges_by_kind role t block P inner leaf =
    cond_both (is_inner_node block) (map (child_edge role block) (range_with_len 0 (entry_count t.size block)))
    (flat_map t.leaf_edges (node_entries_of t.size block)) P inner leaf

-- the number of entries, of those of leaves, and of keys
pub length-entries : (size : ℕ) (block : List ℕ) → length (node_entries_of size block) ≡ entry_count size block
unfolding node_entries_of
length-entries size block =
    length-map-range_with_len {X = Entry} (λ i. record { key = key_at block i; value = value_at size block i }) 0 (entry_count size block)

pub length-leaf : (size : ℕ) (block : List ℕ) → length (leaf_entries size block) ≤ entry_count size block
unfolding leaf_entries
length-leaf size block =
    cond_both (is_inner_node block) [] (node_entries_of size block) (λ xs. length xs ≤ entry_count size block)
    (λ _. omega arith) (λ _. omega (arith, length-entries size block))

pub length-keys : (size : ℕ) (block : List ℕ) → length (node_keys size block) ≡ entry_count size block
unfolding node_keys
length-keys size block = length-map-range_with_len (key_at block) 0 (entry_count size block)

-- the nodes of such a tree
pub tree_kept : (roles nr data_blocks role edges_each data_each : ℕ) (t : Tree) → IsKeptTree roles data_blocks role edges_each data_each t
    → IsKeptBy roles nr data_blocks role (tree t)
unfolding tree_bad tree_tests node_tests
tree_kept roles nr data_blocks role edges_each data_each t is = record {
  at = λ place block sound.
      let tests = tests_after_one _ _ (tree_tests nr role t place block) sound in
      let size = t.size in
      let count = entry_count size block in
      let inner = is_inner_node block in
      let entries = node_entries_of size block in
      let leaves = leaf_entries size block in
      let shape = second_holds (are_flags_bad block) (is_shape_bad size block) tests.1.1.1.1.0 tests.1.1.1.0 in
      let same = count_is size block tests.1.1.1.1.0 shape in
      let keys_number = length-keys size block in
      let children_number = length-map-range_with_len (child_edge role block) 0 count in
      let room = entries_fit size 4 block shape (wide_enough size 4 block (omega arith) is.wide) in
      let later = all_flat_map t.leaf_edges (IsLater roles role) entries (all_of (λ e. AllByRecursion (IsLater roles role) (t.leaf_edges e)) is.later entries) in
      record {
        edge_number = edges_by_kind role t block (λ xs. length xs ≤ 255)
            (λ is_inner. let wide : 8 ≤ width_of size block = rw is_inner (omega arith) in omega (arith, entries_fit size 8 block shape wide))
            (λ _. let number = length-flat_map t.leaf_edges edges_each is.few_edges entries in
            let few = few_named size edges_each count block shape same is.edges_fit in
            let most = rw (length-entries size block) at number in
            omega arith);
        data_number =
            let number = length-flat_map t.leaf_data data_each is.few_data leaves in
            let few = few_named size data_each count block shape same is.data_fit in
            let most = mul-le-mul_right data_each (length-leaf size block) in
            omega arith;
        key_number = omega arith;
        inside = edges_inside nr nr (tree_edges role t block) (omega arith) tests.1.0;
        known = edges_by_kind role t block (AllByRecursion (λ (e : Edge). e.role < roles))
            (λ _. all_map (child_edge role block) (λ (e : Edge). e.role < roles) (λ i. is.known) (range_with_len 0 count))
            (λ _. all_from (IsLater roles role) (λ (e : Edge). e.role < roles) (λ e h. h.1) (flat_map t.leaf_edges entries) later);
        inner_edges = λ _ is_inner. edges_by_kind role t block (AllByRecursion (λ (e : Edge). e.role ≡ role))
            (λ _. all_map (child_edge role block) (λ (e : Edge). e.role ≡ role) (λ i. refl) (range_with_len 0 count))
            (λ leaf. absurd (both_ways inner leaf is_inner));
        other_edges = λ other. edges_by_kind role t block (AllByRecursion (λ (e : Edge). role < e.role))
            (λ is_inner. absurd (elim other [ inl no_tree ↦ both_ways true no_tree refl | inr leaf ↦ both_ways inner leaf is_inner ]))
            (λ _. all_from (IsLater roles role) (λ (e : Edge). role < e.role) (λ e h. h.0) (flat_map t.leaf_edges entries) later);
        data_within = all_flat_map t.leaf_data (λ d. d < data_blocks) leaves
            (all_from (λ e. t.is_beyond e ≡ false) (λ e. AllByRecursion (λ d. d < data_blocks) (t.leaf_data e)) is.within leaves
            (none_passes t.is_beyond leaves tests.0));
        inner_keys = λ _ is_inner. edges_by_kind role t block (λ xs. length (node_keys size block) ≡ length xs)
            (λ _. omega arith) (λ leaf. absurd (both_ways inner leaf is_inner));
        inner_some = λ _ is_inner. omega (arith, shape_some size block shape is_inner);
        ascending = not-false (is_ascending (node_keys size block)) tests.1.1.0;
        tree_keys = λ no_tree. absurd (both_ways true no_tree refl);
      };
}

-- a tree whose leaves name nothing
pub plain_kept : (roles nr data_blocks role size : ℕ) → role < roles → 4 ≤ size → IsKeptBy roles nr data_blocks role (plain_tree size)
plain_kept roles nr data_blocks role size known wide =
    tree_kept roles nr data_blocks role 0 0 _
    (record {
      wide = wide;
      known = known;
      edges_fit = inl refl;
      data_fit = inl refl;
      few_edges = λ e. omega arith;
      few_data = λ e. omega arith;
      later = λ e. tt;
      within = λ e _. tt;
    })

-- a tree whose leaves name one block for each entry, in a later role
pub naming_kept : (roles nr data_blocks role size target : ℕ) (block_of : Entry → ℕ) (is_beyond : Entry → Bool)
    → role < target → target < roles → 8 ≤ size
    → IsKeptBy roles nr data_blocks role (tree (record {
      size = size;
      leaf_edges = λ e. record { role = target; block = block_of e } ∷ [];
      leaf_data = λ e. [];
      is_beyond = is_beyond;
    }))
naming_kept roles nr data_blocks role size target block_of is_beyond later known wide =
    tree_kept roles nr data_blocks role 1 0 _
    (record {
      wide = omega arith;
      known = omega arith;
      edges_fit = inr (refl, wide);
      data_fit = inl refl;
      few_edges = λ e. omega arith;
      few_data = λ e. omega arith;
      later = λ e. ((later, known), tt);
      within = λ e _. tt;
    })
