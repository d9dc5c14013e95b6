-- Trusted base.
-- What a block is in a role: the local rules that it is looked at by, and the blocks that it names.
use Rattle.std.specs.Prelude.{ℕ, zero, suc, Bool, true, false, ◌&&◌, not, if◌then◌else◌, List, [], ◌∷◌, map}
use Rattle.std.specs.List.{list_any, flat_map, range_with_len}
use Rattle.pd_kinds.specs.declared.rule.Rule.{Rule}
use Rattle.pd_kinds.specs.Rule.{all_rules, Test, failing, alone}
use Rattle.pd_kinds.specs.Field.{has_checksum}
use Rattle.pd_kinds.specs.Graph.{Edge, has_edge_outside, Graph}
use Rattle.pd_kinds.specs.Node.{Entry, node_salt, node_tests, entry_count, key_at, value_at, child_at, is_inner_node, node_keys}
use Rattle.pd_kinds.specs.Array.{array_bad}
use Rattle.pd_kinds.specs.Bitmap.{bitmap_bad, index_bad, index_blocks}
use Rattle.pd_kinds.specs.declared.rule.Rule.TheVariants as r

-- a tree: the size of its leaf values, and what an entry of a leaf names
pub record Tree : Type 0 where
  pub size : ℕ
  pub leaf_edges : Entry → List Edge
  pub leaf_data : Entry → List ℕ
  -- whether the entry lies outside its range
  pub is_beyond : Entry → Bool

-- what a block is in a role
pub data Layout : Type 0 where
  -- a superblock or a copy of it: its rules in a place, and its edges
  copy : (ℕ → List ℕ → Rule → Bool) → (List ℕ → List Edge) → Layout
  tree : Tree → Layout
  bitmap : Layout
  -- an index block, and the role of the bitmaps that it names
  index : ℕ → Layout
  -- an array block, and the size of its words
  array : ℕ → Layout

-- the entries of a node with leaf values of this size
unfoldable pub node_entries_of : ℕ → List ℕ → List Entry
node_entries_of size block =
    map (λ i. record { key = key_at block i; value = value_at size block i }) (range_with_len 0 (entry_count size block))

-- the entries of a leaf; an inner node has none
unfoldable pub leaf_entries : ℕ → List ℕ → List Entry
leaf_entries size block = if is_inner_node block then [] else node_entries_of size block

-- the blocks that the entries of a node name, in this role of its tree
unfoldable pub tree_edges : ℕ → Tree → List ℕ → List Edge
tree_edges role t block =
    if is_inner_node block
    then map (λ i. record { role = role; block = child_at block i }) (range_with_len 0 (entry_count t.size block))
    else flat_map t.leaf_edges (node_entries_of t.size block)

-- the rules of a node that are looked at each by itself: those of any node, and what its entries name
unfoldable pub tree_tests : ℕ → ℕ → Tree → ℕ → List ℕ → List Test
tree_tests nr role t place block =
    record { rule = r.Beyond; fails = list_any t.is_beyond (leaf_entries t.size block) }
    ∷ record { rule = r.Pointer; fails = has_edge_outside nr (tree_edges role t block) }
    ∷ node_tests t.size place block

unfoldable pub tree_bad : ℕ → ℕ → Tree → ℕ → List ℕ → Rule → Bool
tree_bad nr role t place block =
    alone r.Checksum (not (has_checksum block node_salt)) (failing (tree_tests nr role t place block))

-- the rules that a block breaks, in a role with this layout, of so many metadata blocks
abbrev pub layout_bad : ℕ → ℕ → Layout → ℕ → List ℕ → Rule → Bool
layout_bad nr role (copy bad edges) place block = bad place block
layout_bad nr role (tree t) place block = tree_bad nr role t place block
layout_bad nr role bitmap place block = bitmap_bad place block
layout_bad nr role (index target) place block = index_bad nr place block
layout_bad nr role (array size) place block = array_bad size place block

-- whether a block breaks any rule
unfoldable pub is_bad : ℕ → ℕ → Layout → ℕ → List ℕ → Bool
is_bad nr role layout place block = list_any (layout_bad nr role layout place block) all_rules

-- the blocks that a block without a bad rule names
abbrev pub layout_edges : ℕ → ℕ → Layout → List ℕ → List Edge
layout_edges nr role (copy bad edges) block = edges block
layout_edges nr role (tree t) block = tree_edges role t block
layout_edges nr role bitmap block = []
layout_edges nr role (index target) block = map (λ b. record { role = target; block = b }) (index_blocks nr block)
layout_edges nr role (array size) block = []

-- whether the layout is that of a tree's nodes
abbrev pub is_tree_layout : Layout → Bool
is_tree_layout (tree t) = true
is_tree_layout _ = false

-- the keys of a node, and the data blocks that the entries of a leaf name
abbrev pub layout_keys : Layout → List ℕ → List ℕ
layout_keys (tree t) block = node_keys t.size block
layout_keys _ block = []

abbrev pub layout_data : Layout → List ℕ → List ℕ
layout_data (tree t) block = flat_map t.leaf_data (leaf_entries t.size block)
layout_data _ block = []

-- a format is a table of layouts, by role: a block with a bad rule names nothing, and has no keys
unfoldable pub graph_of : ℕ → ℕ → ℕ → (ℕ → Layout) → Graph
graph_of roles nr data_blocks layout = record {
  roles = roles;
  nr = nr;
  data_blocks = data_blocks;
  bad = λ role place block. layout_bad nr role (layout role) place block;
  is_tree = λ role. is_tree_layout (layout role);
  is_inner = λ role place block.
      is_tree_layout (layout role) && (not (is_bad nr role (layout role) place block) && is_inner_node block);
  edges = λ role place block. if is_bad nr role (layout role) place block then [] else layout_edges nr role (layout role) block;
  keys = λ role place block. if is_bad nr role (layout role) place block then [] else layout_keys (layout role) block;
  data_refs = λ role place block. if is_bad nr role (layout role) place block then [] else layout_data (layout role) block;
}

-- a tree whose leaves name nothing
abbrev pub plain_tree : ℕ → Layout
plain_tree size = tree (record { size = size; leaf_edges = λ e. []; leaf_data = λ e. []; is_beyond = λ e. false })

-- a tree whose leaves name the block of each entry's value, in this role
abbrev pub tree_to : ℕ → ℕ → (ℕ → ℕ) → Layout
tree_to size role block_of_value = tree (record {
  size = size;
  leaf_edges = λ e. record { role = role; block = block_of_value e.value } ∷ [];
  leaf_data = λ e. [];
  is_beyond = λ e. false;
})

-- the layout of a role in a table; a role that it lacks names nothing, like a bitmap
abbrev pub layouts : ℕ → List Layout → Layout
layouts role [] = bitmap
layouts zero (layout ∷ table) = layout
layouts (suc role) (layout ∷ table) = layouts role table
