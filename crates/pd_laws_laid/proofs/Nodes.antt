-- What a format's graph sees of a written node.
use Rattle.std.proofs.Common.{◌≡◌, ◌⊎◌, inl, inr, ℕ, zero, suc, ◌^◌, ◌<◌, ◌≤◌, true, false, nat_eq, List, [], ◌∷◌, length, map, get_or, refl, sym, ◌∙◌, ap, arith, lit≤}
use Rattle.std.specs.List.{AllByRecursion, flat_map, range_with_len, list_any}
use Rattle.std.proofs.lemmas.Bool.Decides.{nat_tests}
use Rattle.std.proofs.lemmas.List.{get_or-map}
use Rattle.pd_kinds.specs.declared.rule.Rule.{Rule}
use Rattle.pd_kinds.specs.Rule.{all_rules, alone, failing}
use Rattle.pd_kinds.specs.Field.{has_checksum}
use Rattle.pd_kinds.specs.Graph.{Edge, edge_of, is_outside, has_edge_outside, Graph, block_at, pair, block_of, role_of, edges_of, data_refs_of, own_keys, is_inner_pair, next}
use Rattle.pd_kinds.specs.Node.{Entry, node_salt, node_block, leaf_block, inner_block, node_bad, node_keys, is_inner_node, is_ascending, entry_count, key_at, value_at, child_at, max_entries}
use Rattle.pd_kinds.specs.Layout.{Tree, Layout, tree, node_entries_of, leaf_entries, tree_edges, tree_tests, tree_bad, is_bad, graph_of}
use Rattle.pd_kinds.specs.Trees.{keys_of}
use Rattle.pd_kinds.proofs.KindLemmas.{none_broken}
use Rattle.pd_kinds.proofs.KindsListLemmas.{any-map}
use Rattle.pd_kinds.proofs.ListLemmas.{all_from}
use Rattle.pd_laid.specs.Laid.{LaidBlock}
use Rattle.pd_laid.proofs.NodeFacts.{map-map}
use Rattle.pd_node.proofs.Written.{CanWrite, key_written, value_written, IsKind, is_inner_written, count_written, keys_written, values_written, sound_written, read_back}
use Rattle.pd_laws_laid.specs.LaidOut.{LeadsBelow, AreItems}
use Rattle.pd_laws_laid.proofs.ListLemmas.{any_none}
use Rattle.pd_laws_laid.proofs.Bytes.{valid_node}
use Rattle.pd_laws_laid.proofs.Levels.{IsInnerAt, IsLeafAt}
use Rattle.pd_laws_laid.proofs.Rows.{IsInnerNode}

-- a fact on each key, or each value, by its index
all_at_index : (f : Entry → ℕ) (limit : ℕ) (entries : List Entry) → AllByRecursion (λ (e : Entry). f e < limit) entries
    → (i : ℕ) → i < length entries → get_or (map f entries) i 0 < limit
all_at_index f limit [] all i h = absurd (omega arith)
all_at_index f limit (e ∷ entries) all zero h = all.0
all_at_index f limit (e ∷ entries) all (suc i) h = all_at_index f limit entries all.1 i (omega arith)

-- what can be written in a place
record IsWritable (flags size place leaf_size : ℕ) (entries : List Entry) : Type 0 where
  kind : IsKind flags size leaf_size (length entries)
  place_fits : place < 2 ^ 64
  size_fits : size ≤ 24
  most : length entries ≤ max_entries size
  ascending : is_ascending (keys_of entries) ≡ true
  keys_fit : AllByRecursion (λ (e : Entry). e.key < 2 ^ 64) entries
  values_fit : AllByRecursion (λ (e : Entry). e.value < 256 ^ size) entries

flags_small : (flags : ℕ) → (flags ≡ 1) ⊎ (flags ≡ 2) → flags < 2 ^ 32
flags_small flags known = elim known [ inl one ↦ rw one (omega arith) | inr two ↦ rw two (omega arith) ]

module _ (flags size place leaf_size : ℕ) (entries : List Entry) (is : IsWritable flags size place leaf_size entries) where
  abbrev block_is : List ℕ
  block_is = node_block flags size place entries

  can : CanWrite flags size place entries
  can = record {
    flags_fit = flags_small flags is.kind.flags_known;
    size_fits = is.size_fits;
    place_fits = is.place_fits;
    room = is.most;
    keys_fit = all_at_index (λ (e : Entry). e.key) (2 ^ 64) entries is.keys_fit;
    values_fit = all_at_index (λ (e : Entry). e.value) (256 ^ size) entries is.values_fit;
  }

  node_sound : (rule : Rule) → node_bad leaf_size place block_is rule ≡ false
  node_sound = sound_written flags size place leaf_size entries can is.kind is.ascending (valid_node flags size place entries)

  keys_read : node_keys leaf_size block_is ≡ keys_of entries
  keys_read = keys_written flags size place leaf_size entries can is.kind

  inner_read : is_inner_node block_is ≡ nat_eq flags 1
  inner_read = is_inner_written flags size place entries can

  -- the entries, where the values have the leaves' size
  entries_read : size ≡ leaf_size → node_entries_of leaf_size block_is ≡ entries
  unfolding node_entries_of
  entries_read same =
      let count = count_written flags size place leaf_size entries can is.kind in
      rw (count, ← same)
      (read_back (λ i. record { key = key_at block_is i; value = value_at size block_is i }) entries (length entries) (record { key = 0; value = 0 }) refl
      (λ i h. same_entry (key_at block_is i) (value_at size block_is i) (get_or entries i (record { key = 0; value = 0 }))
      (key_written flags size place entries can i h ∙ get_or-map (λ (e : Entry). e.key) entries i (record { key = 0; value = 0 }) 0 h)
      (value_written flags size place entries can i h ∙ get_or-map (λ (e : Entry). e.value) entries i (record { key = 0; value = 0 }) 0 h)))
    where
      same_entry : (k v : ℕ) (e : Entry) → k ≡ e.key → v ≡ e.value → ◌≡◌ {A = Entry} (record { key = k; value = v }) e
      same_entry k v e at_key at_value = rw (at_key, at_value) refl

  -- the blocks that an inner node names
  children_read : size ≡ 8 → map (child_at block_is) (range_with_len 0 (entry_count leaf_size block_is)) ≡ map (λ (e : Entry). e.value) entries
  children_read same =
      ap (λ (s : ℕ). map (value_at s block_is) (range_with_len 0 (entry_count leaf_size block_is))) (sym same)
      ∙ values_written flags size place leaf_size entries can is.kind

-- a sound node breaks no rule of its tree, where what it names lies inside, and its entries in their range
tree_sound : (nr role : ℕ) (t : Tree) (place : ℕ) (block : List ℕ) → has_checksum block node_salt ≡ true
    → ((rule : Rule) → node_bad t.size place block rule ≡ false)
    → list_any t.is_beyond (leaf_entries t.size block) ≡ false → has_edge_outside nr (tree_edges role t block) ≡ false
    → (rule : Rule) → tree_bad nr role t place block rule ≡ false
unfolding tree_bad tree_tests node_bad alone failing
tree_sound nr role t place block valid sound beyond outside rule =
    rw (valid, beyond, outside) (rw valid at (sound rule))

-- a pair's own functions, by its place and role
pub at_pair : {X : Type 0} → (image : List (List ℕ)) (f : ℕ → ℕ → List ℕ → X) (place role : ℕ) → role < 16
    → f (role_of (pair place role)) (block_of (pair place role)) (block_at image (block_of (pair place role))) ≡ f role place (block_at image place)
at_pair image f place role small =
    let own : role_of (pair place role) ≡ role = omega arith in
    let block : block_of (pair place role) ≡ place = omega arith in
    ap (λ (c : ℕ). f (role_of (pair place role)) c (block_at image c)) block ∙ ap (λ (r : ℕ). f r place (block_at image place)) own

-- what the graph sees of a block in a tree's role that breaks no rule
record Sees (graph : Graph) (image : List (List ℕ)) (role place : ℕ) (t : Tree) (block : List ℕ) : Type 0 where
  inner : is_inner_pair graph image (pair place role) ≡ is_inner_node block
  edges : edges_of graph image (pair place role) ≡ tree_edges role t block
  keys_are : own_keys graph image (pair place role) ≡ node_keys t.size block
  data_refs : data_refs_of graph image (pair place role) ≡ flat_map t.leaf_data (leaf_entries t.size block)
  sound : (rule : Rule) → graph.bad role place (block_at image place) rule ≡ false

no_leaf : (size : ℕ) (block : List ℕ) → is_inner_node block ≡ true → leaf_entries size block ≡ []
unfolding leaf_entries
no_leaf size block inner = rw inner refl

own_leaf : (size : ℕ) (block : List ℕ) → is_inner_node block ≡ false → leaf_entries size block ≡ node_entries_of size block
unfolding leaf_entries
own_leaf size block leaf = rw leaf refl

-- a leaf as it is written, wherever it stands
leaf_writable : (blocks : List LaidBlock) (limit : ℕ) (t : Tree) (place : ℕ) (entries : List Entry) → place < 2 ^ 64 → t.size ≤ 24
    → length entries ≤ max_entries t.size → AreItems blocks limit t entries → IsWritable 2 t.size place t.size entries
leaf_writable blocks limit t place entries fits wide most items = record {
  kind = record { flags_known = inr refl; size_known = refl; some = λ wrong. absurd (omega arith) };
  place_fits = fits;
  size_fits = wide;
  most = most;
  ascending = items.ascending;
  keys_fit = items.keys_fit;
  values_fit = items.values_fit;
}

inner_writable : (leaf_size place : ℕ) (entries : List Entry) → place < 2 ^ 64 → IsInnerNode place entries → IsWritable 1 8 place leaf_size entries
inner_writable leaf_size place entries fits node = record {
  kind = record { flags_known = inl refl; size_known = refl; some = λ _. node.some };
  place_fits = fits;
  size_fits = lit≤ tt;
  most = node.most;
  ascending = node.ascending;
  keys_fit = node.keys_fit;
  values_fit = all_from (λ (e : Entry). (1 ≤ e.value) × (e.value < place)) (λ (e : Entry). e.value < 256 ^ 8) (λ e inside. omega arith) entries node.inside;
}

-- edges that lead to laid blocks lead to none outside
pub none_outside : (nr : ℕ) (blocks : List LaidBlock) (limit : ℕ) (edges : List Edge) → limit ≤ nr → AllByRecursion (LeadsBelow blocks limit) edges → has_edge_outside nr edges ≡ false
unfolding has_edge_outside
none_outside nr blocks limit edges within all =
    any_none (λ (e : Edge). is_outside nr e.block) edges
    (all_from (LeadsBelow blocks limit) (λ (e : Edge). is_outside nr e.block ≡ false)
    (λ e is. let low = is.from_one in let high = is.below in grind (arith, nat_tests)) edges all)

module _ (roles nr data_blocks : ℕ) (table : ℕ → Layout) (image : List (List ℕ)) (role : ℕ) (t : Tree) (is : table role ≡ tree t) (small : role < 16) where
  abbrev this : Graph
  this = graph_of roles nr data_blocks table

  sees : (place : ℕ) (block : List ℕ) → block_at image place ≡ block
      → ((rule : Rule) → tree_bad nr role t place block rule ≡ false) → Sees this image role place t block
  unfolding graph_of is_bad
  sees place block stands sound =
      let good = none_broken (tree_bad nr role t place block) sound all_rules in
      record {
        inner = at_pair image this.is_inner place role small ∙ rw (stands, is, good) refl;
        edges = at_pair image this.edges place role small ∙ rw (stands, is, good) refl;
        keys_are = at_pair image this.keys place role small ∙ rw (stands, is, good) refl;
        data_refs = at_pair image this.data_refs place role small ∙ rw (stands, is, good) refl;
        sound = λ rule. rw (stands, is) (sound rule);
      }

  inner_edges : (place : ℕ) (entries : List Entry) → IsWritable 1 8 place t.size entries
      → tree_edges role t (inner_block place entries) ≡ map (λ (e : Entry). edge_of role e.value) entries
  unfolding tree_edges
  inner_edges place entries writable =
      let block = inner_block place entries in
      rw (inner_read 1 8 place t.size entries writable)
      (sym (map-map (edge_of role) (child_at block) (range_with_len 0 (entry_count t.size block)))
      ∙ (ap (map (edge_of role)) (children_read 1 8 place t.size entries writable refl) ∙ map-map (edge_of role) (λ (e : Entry). e.value) entries))

  -- no edge of an inner node leads outside
  inner_inside : (place : ℕ) (entries : List Entry) → place ≤ nr → AllByRecursion (λ (e : Entry). (1 ≤ e.value) × (e.value < place)) entries
      → has_edge_outside nr (map (λ (e : Entry). edge_of role e.value) entries) ≡ false
  unfolding has_edge_outside
  inner_inside place entries within inside =
      any-map (λ (edge : Edge). is_outside nr edge.block) (λ (e : Entry). edge_of role e.value) entries
      ∙ any_none (λ (e : Entry). is_outside nr e.value) entries
      (all_from (λ (e : Entry). (1 ≤ e.value) × (e.value < place)) (λ (e : Entry). is_outside nr e.value ≡ false)
      (λ e is. let low = is.0 in let high = is.1 in grind (arith, nat_tests)) entries inside)

  -- an inner node as the graph sees it, with what it names
  pub record IsSeenInner (place : ℕ) (entries : List Entry) : Type 0 where
    pub at : IsInnerAt this image role place entries
    pub edges_are : edges_of this image (pair place role) ≡ map (λ (e : Entry). edge_of role e.value) entries
    pub data_are : data_refs_of this image (pair place role) ≡ []
    pub sound : (rule : Rule) → this.bad role place (block_at image place) rule ≡ false

  pub inner_seen : (place : ℕ) (entries : List Entry) → place < nr → nr ≤ 2 ^ 64 → block_at image place ≡ inner_block place entries
      → IsInnerNode place entries → IsSeenInner place entries
  unfolding next
  inner_seen place entries within few stands node =
      let block = inner_block place entries in
      let writable = inner_writable t.size place entries (omega arith) node in
      let none = no_leaf t.size block (inner_read 1 8 place t.size entries writable) in
      let edges = inner_edges place entries writable in
      let beyond : list_any t.is_beyond (leaf_entries t.size block) ≡ false = rw none refl in
      let outside : has_edge_outside nr (tree_edges role t block) ≡ false = rw edges (inner_inside place entries (omega arith) node.inside) in
      let seen = sees place block stands
      (tree_sound nr role t place block (valid_node 1 8 place entries) (node_sound 1 8 place t.size entries writable) beyond outside) in
      record {
        at = record {
          inner = seen.inner ∙ inner_read 1 8 place t.size entries writable;
          leads = ap (map (λ (edge : Edge). pair edge.block edge.role)) (seen.edges ∙ edges)
              ∙ map-map (λ (edge : Edge). pair edge.block edge.role) (λ (e : Entry). edge_of role e.value) entries;
          keys_are = seen.keys_are ∙ keys_read 1 8 place t.size entries writable;
        };
        edges_are = seen.edges ∙ edges;
        data_are = seen.data_refs ∙ ap (flat_map t.leaf_data) none;
        sound = seen.sound;
      }

  leaf_read : (place : ℕ) (entries : List Entry) → IsWritable 2 t.size place t.size entries → leaf_entries t.size (leaf_block t.size place entries) ≡ entries
  leaf_read place entries writable =
      own_leaf t.size (leaf_block t.size place entries) (inner_read 2 t.size place t.size entries writable)
      ∙ entries_read 2 t.size place t.size entries writable refl

  leaf_edges_read : (place : ℕ) (entries : List Entry) → IsWritable 2 t.size place t.size entries
      → tree_edges role t (leaf_block t.size place entries) ≡ flat_map t.leaf_edges entries
  unfolding tree_edges
  leaf_edges_read place entries writable =
      rw (inner_read 2 t.size place t.size entries writable) (ap (flat_map t.leaf_edges) (entries_read 2 t.size place t.size entries writable refl))

  -- a leaf as the graph sees it, with what it names
  pub record IsSeenLeaf (place : ℕ) (entries : List Entry) : Type 0 where
    pub at : IsLeafAt this image t.size role place entries
    pub edges_are : edges_of this image (pair place role) ≡ flat_map t.leaf_edges entries
    pub data_are : data_refs_of this image (pair place role) ≡ flat_map t.leaf_data entries
    pub sound : (rule : Rule) → this.bad role place (block_at image place) rule ≡ false

  pub leaf_seen : (place : ℕ) (entries : List Entry) → place < nr → nr ≤ 2 ^ 64 → t.size ≤ 24 → block_at image place ≡ leaf_block t.size place entries
      → (blocks : List LaidBlock) (limit : ℕ) → limit ≤ nr → length entries ≤ max_entries t.size → AreItems blocks limit t entries
      → AllByRecursion (LeadsBelow blocks limit) (flat_map t.leaf_edges entries) → IsSeenLeaf place entries
  leaf_seen place entries within few wide stands blocks limit inside most items leads =
      let block = leaf_block t.size place entries in
      let writable = leaf_writable blocks limit t place entries (omega arith) wide most items in
      let own = leaf_read place entries writable in
      let edges = leaf_edges_read place entries writable in
      let beyond : list_any t.is_beyond (leaf_entries t.size block) ≡ false = rw own (any_none t.is_beyond entries items.in_range) in
      let outside : has_edge_outside nr (tree_edges role t block) ≡ false = rw edges (none_outside nr blocks limit (flat_map t.leaf_edges entries) inside leads) in
      let seen = sees place block stands
      (tree_sound nr role t place block (valid_node 2 t.size place entries) (node_sound 2 t.size place t.size entries writable) beyond outside) in
      let at_place : block_of (pair place role) ≡ place = omega arith in
      record {
        at = record {
          leaf = seen.inner ∙ inner_read 2 t.size place t.size entries writable;
          entries_are = ap (λ (b : ℕ). leaf_entries t.size (block_at image b)) at_place ∙ (ap (leaf_entries t.size) stands ∙ own);
          keys_are = seen.keys_are ∙ keys_read 2 t.size place t.size entries writable;
        };
        edges_are = seen.edges ∙ edges;
        data_are = seen.data_refs ∙ ap (flat_map t.leaf_data) own;
        sound = seen.sound;
      }
