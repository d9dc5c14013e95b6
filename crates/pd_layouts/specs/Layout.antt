-- What a format's table says, as the definitions have it.
-- What the entries of a tree's leaves name, and the range in which they lie.
-- The values that leaves hold: their size, and the number of the block that one names.
-- The number of roles of a table's graph.
-- What the bytes of a block say in a role, whatever rules it breaks, by a table of layouts.
use Rattle.std.specs.Prelude.{ℕ, ◌^◌, Bool, false, not, nat_lt, List, [], ◌∷◌, ◌/◌, ◌%◌, ◌≡◌, refl, ◌&&◌, true, length}
use Rattle.std.specs.List.{list_any}
use Rattle.std.proofs.Common.{◌∙◌, sym}
use Rattle.std.proofs.lemmas.Bool.{both_ways}
use Rattle.std.proofs.lemmas.List.FromFn.{length-map-range_with_len}
use Rattle.pd_kinds.specs.Graph.{Edge, edge_of}
use Rattle.pd_kinds.specs.Layout.{Tree, Layout, copy, tree, bitmap, index, array, graph_of, is_bad, is_tree_layout, layout_bad, layout_edges, layout_keys, layout_data}
use Rattle.pd_kinds.specs.declared.rule.Rule.{Rule}
use Rattle.pd_kinds.specs.Rule.{all_rules}
use Rattle.pd_kinds.specs.Node.{is_inner_node, entry_count}
use Rattle.pd_kinds.proofs.TreeLemmas.{length-keys, edges_by_kind, child_edge}
use Rattle.pd_array.specs.Word.{size_of}
use Rattle.pd_graph.specs.Format.{Contents, AreContents}
use Rattle.pd_layouts.specs.declared.layout.Names.{Names}
use Rattle.pd_layouts.specs.declared.layout.Names.TheVariants.{Metadata, MetadataByEra, Data}
use Rattle.pd_layouts.specs.declared.layout.LeafValue.{LeafValue}
use Rattle.pd_layouts.specs.declared.layout.Layout.{Layout as Said}
use Rattle.pd_layouts.specs.declared.layout.LeafValue.TheVariants as kind
use Rattle.pd_layouts.specs.declared.layout.Layout.TheVariants as said

-- the metadata block that an entry names, whose value names this number
abbrev pub edges_named : Names → ℕ → List Edge
edges_named (Metadata role) number = edge_of role number ∷ []
edges_named (MetadataByEra role) number = edge_of role number ∷ []
edges_named _ number = []

-- the data block that it names
abbrev pub data_named : Names → ℕ → List ℕ
data_named (Data limit) number = number ∷ []
data_named _ number = []

-- whether an entry with this key, whose value names this number, lies outside its range
abbrev pub is_named_beyond : Names → ℕ → ℕ → Bool
is_named_beyond (MetadataByEra role) key number = not (nat_lt key (2 ^ 32))
is_named_beyond (Data limit) key number = not (nat_lt number limit)
is_named_beyond _ key number = false

-- a tree whose leaves have values of this size, which name the block of this number
abbrev pub leaf_tree : ℕ → Names → (ℕ → ℕ) → Tree
leaf_tree size names target = record {
  size = size;
  leaf_edges = λ e. edges_named names (target e.value);
  leaf_data = λ e. data_named names (target e.value);
  is_beyond = λ e. is_named_beyond names e.key (target e.value);
}

-- so many, where entries name metadata blocks, and where they name data blocks
abbrev pub if_metadata : Names → ℕ → ℕ
if_metadata (Metadata role) count = count
if_metadata (MetadataByEra role) count = count
if_metadata _ count = 0

abbrev pub if_data : Names → ℕ → ℕ
if_data (Data limit) count = count
if_data _ count = 0

-- the role in which entries name metadata blocks
abbrev pub role_named : Names → ℕ
role_named (Metadata role) = role
role_named (MetadataByEra role) = role
role_named _ = 0

abbrev pub value_size : LeafValue → ℕ
value_size kind.Root = 8
value_size kind.BlockTime = 8
value_size kind.Details = 24
value_size kind.IndexEntry = 16
value_size kind.Count = 4
value_size kind.Writeset = 12

abbrev pub value_target : LeafValue → ℕ → ℕ
value_target kind.Root value = value
value_target kind.BlockTime value = value / 2 ^ 24
value_target kind.IndexEntry value = value % 2 ^ 64
value_target kind.Writeset value = value / 2 ^ 32
value_target kind.Details value = 0
value_target kind.Count value = 0

-- a tree with such leaves, whose entries name this
abbrev pub tree_of : LeafValue → Names → Tree
tree_of value names = leaf_tree (value_size value) names (value_target value)

-- the layout, where copies of a superblock have these rules in a place, and these edges
abbrev pub layout_of : (ℕ → List ℕ → Rule → Bool) → (List ℕ → List Edge) → Said → Layout
layout_of bad edges said.Copy = copy bad edges
layout_of bad edges (said.Tree value names) = tree (tree_of value names)
layout_of bad edges said.Bitmap = bitmap
layout_of bad edges (said.Index role) = index role
layout_of bad edges (said.Array word) = array (size_of word)

pub roles_of_graph : (roles nr data_blocks : ℕ) (layout : ℕ → Layout) → (graph_of roles nr data_blocks layout).roles ≡ roles
unfolding graph_of
roles_of_graph roles nr data_blocks layout = refl

abbrev pub contents_of : ℕ → (ℕ → Layout) → Contents
contents_of nr layout = record {
  is_inner = λ role block. is_tree_layout (layout role) && is_inner_node block;
  edges = λ role block. layout_edges nr role (layout role) block;
  keys = λ role block. layout_keys (layout role) block;
  data_refs = λ role block. layout_data (layout role) block;
}

-- where no rule is broken, none of all is
none_of_all : (bad : Rule → Bool) → ((rule : Rule) → bad rule ≡ false) → list_any bad all_rules ≡ false
unfolding all_rules
none_of_all bad sound = simp sound

-- an inner node has a key for each edge
keys_by_edges : (nr role : ℕ) (layout : Layout) (block : List ℕ) → (is_tree_layout layout && is_inner_node block) ≡ true
    → length (layout_keys layout block) ≡ length (layout_edges nr role layout block)
keys_by_edges nr role (tree t) block inner =
    edges_by_kind role t block (λ edges. length (layout_keys (tree t) block) ≡ length edges)
    (λ _. length-keys t.size block ∙ sym (length-map-range_with_len (child_edge role block) 0 (entry_count t.size block)))
    (λ leaf. absurd (both_ways _ leaf inner))
keys_by_edges nr role _ block inner = absurd (both_ways false refl inner)

-- of a block without a bad rule they are what the format says
pub contents_told : (roles nr data_blocks : ℕ) (layout : ℕ → Layout) → AreContents (graph_of roles nr data_blocks layout) (contents_of nr layout)
unfolding graph_of is_bad
contents_told roles nr data_blocks layout = record {
  is_inner = λ role place block known sound. rw (none_of_all (layout_bad nr role (layout role) place block) sound) refl;
  edges = λ role place block known sound. rw (none_of_all (layout_bad nr role (layout role) place block) sound) refl;
  keys = λ role place block known sound. rw (none_of_all (layout_bad nr role (layout role) place block) sound) refl;
  data_refs = λ role place block known sound. rw (none_of_all (layout_bad nr role (layout role) place block) sound) refl;
  inner_keys = λ role block known inner. keys_by_edges nr role (layout role) block inner;
}
