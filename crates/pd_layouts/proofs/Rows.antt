-- What a node names, as one row by index.
use Rattle.std.proofs.Common.{◌≡◌, ℕ, ◌<◌, Bool, true, false, cond, if◌then◌else◌, List, [], ◌∷◌, length, map, Some, refl, ◌∙◌, sym, arith}
use Rattle.std.specs.List.{slice_get, range_with_len, flat_map}
use Rattle.std.proofs.lemmas.List.Concat.{flat_map_single}
use Rattle.std.proofs.lemmas.List.FromFn.{length-map-range_with_len, get_or-map-range_with_len}
use Rattle.std.proofs.lemmas.Option.{slice_get-get_or}
use Rattle.std.proofs.lemmas.Simd.{map-map}
use Rattle.std.proofs.lemmas.Bool.{both_ways}
use Rattle.pd_kinds.specs.Graph.{Edge, edge_of}
use Rattle.pd_kinds.specs.Bitmap.{bitmaps_for, index_block_at, index_blocks}
use Rattle.pd_kinds.specs.Node.{Entry, child_at, entry_count, is_inner_node, key_at, value_at}
use Rattle.pd_kinds.specs.Layout.{tree, layout_data, node_entries_of, leaf_entries, tree_edges, Layout, is_tree_layout, layout_keys}
use Rattle.pd_layouts.specs.declared.layout.Names.{Names}
use Rattle.pd_layouts.specs.declared.layout.Names.TheVariants.{Nothing, Metadata, MetadataByEra, Data}
use Rattle.pd_layouts.specs.Layout.{edges_named, data_named, leaf_tree, if_metadata, if_data, role_named}

-- how many metadata blocks a node names, and the one that entry i names
abbrev pub edge_number : ℕ → Names → List ℕ → ℕ
edge_number size names block =
    if is_inner_node block then entry_count size block else if_metadata names (entry_count size block)

abbrev pub edge_at : ℕ → ℕ → Names → (ℕ → ℕ) → List ℕ → ℕ → Edge
edge_at role size names target block i =
    if is_inner_node block
    then edge_of role (child_at block i)
    else edge_of (role_named names) (target (value_at size block i))

-- how many data blocks a node names, and the one that entry i names
abbrev pub data_number : ℕ → Names → List ℕ → ℕ
data_number size names block = if is_inner_node block then 0 else if_data names (entry_count size block)

abbrev pub data_at : ℕ → (ℕ → ℕ) → List ℕ → ℕ → ℕ
data_at size target block i = target (value_at size block i)

-- an element of a row
pub slice_get-row : {X : Type 0} → (f : ℕ → X) (n i : ℕ) → i < n → slice_get (map f (range_with_len 0 n)) i ≡ Some (f i)
slice_get-row f n i within =
    let number = length-map-range_with_len f 0 n in
    let here = get_or-map-range_with_len f 0 n i i (f i) within (omega arith) in
    let found = slice_get-get_or (map f (range_with_len 0 n)) i (f i) (omega arith) in
    rw here at found

-- it is below the row's length
pub below_row : {X : Type 0} → (f : ℕ → X) (n i : ℕ) → i < length (map f (range_with_len 0 n)) → i < n
below_row f n i within = omega (arith, length-map-range_with_len f 0 n)

-- nothing for each element is nothing
flat_map_none : {X Y : Type 0} → (xs : List X) → flat_map {X = X} {A = Y} (λ x. []) xs ≡ []
flat_map_none [] = refl
flat_map_none {X} {Y} (x ∷ xs) = flat_map_none {X = X} {Y = Y} xs

-- an entry by its number
abbrev entry_at : ℕ → List ℕ → ℕ → Entry
entry_at size block i = record { key = key_at block i; value = value_at size block i }

-- one thing for each entry of a node is a row
entries_row : {Y : Type 0} → (f : ℕ → Y) (size : ℕ) (block : List ℕ)
    → flat_map (λ (e : Entry). f e.value ∷ []) (node_entries_of size block)
    ≡ map (λ i. f (value_at size block i)) (range_with_len 0 (entry_count size block))
unfolding node_entries_of
entries_row f size block =
    flat_map_single (λ (e : Entry). f e.value) (node_entries_of size block)
    ∙ map-map (λ (e : Entry). f e.value) (entry_at size block) (range_with_len 0 (entry_count size block))

-- each of a node's entries
pub entry_found : (size : ℕ) (block : List ℕ) (i : ℕ) → i < entry_count size block
    → slice_get (node_entries_of size block) i ≡ Some (record { key = key_at block i; value = value_at size block i })
unfolding node_entries_of
entry_found size block i within = slice_get-row (entry_at size block) (entry_count size block) i within

-- the blocks that a leaf names
leaf_edges_row : (size : ℕ) (names : Names) (target : ℕ → ℕ) (block : List ℕ)
    → flat_map (λ (e : Entry). edges_named names (target e.value)) (node_entries_of size block)
    ≡ map (λ i. edge_of (role_named names) (target (value_at size block i))) (range_with_len 0 (if_metadata names (entry_count size block)))
leaf_edges_row size Nothing target block = flat_map_none (node_entries_of size block)
leaf_edges_row size (Data limit) target block = flat_map_none (node_entries_of size block)
leaf_edges_row size (Metadata named) target block = entries_row (λ value. edge_of named (target value)) size block
leaf_edges_row size (MetadataByEra named) target block = entries_row (λ value. edge_of named (target value)) size block

-- the choice between an inner node and a leaf, over any test
edges_by : (inner : Bool) (count named role : ℕ) (child leaf : ℕ → Edge) (leaves : List Edge)
    → leaves ≡ map leaf (range_with_len 0 named)
    → cond inner (map child (range_with_len 0 count)) leaves ≡ map (λ i. cond inner (child i) (leaf i)) (range_with_len 0 (cond inner count named))
edges_by true count named role child leaf leaves row = refl
edges_by false count named role child leaf leaves row = row

-- the blocks that a node names
edges_row : (role size : ℕ) (names : Names) (target : ℕ → ℕ) (block : List ℕ)
    → tree_edges role (leaf_tree size names target) block ≡ map (edge_at role size names target block) (range_with_len 0 (edge_number size names block))
unfolding tree_edges
edges_row role size names target block =
    edges_by (is_inner_node block) (entry_count size block) (if_metadata names (entry_count size block)) role
    (λ i. edge_of role (child_at block i)) (λ i. edge_of (role_named names) (target (value_at size block i)))
    _ (leaf_edges_row size names target block)

-- the data blocks that a leaf names
leaf_data_row : (size : ℕ) (names : Names) (target : ℕ → ℕ) (block : List ℕ)
    → flat_map (λ (e : Entry). data_named names (target e.value)) (node_entries_of size block)
    ≡ map (data_at size target block) (range_with_len 0 (if_data names (entry_count size block)))
leaf_data_row size Nothing target block = flat_map_none (node_entries_of size block)
leaf_data_row size (Metadata named) target block = flat_map_none (node_entries_of size block)
leaf_data_row size (MetadataByEra named) target block = flat_map_none (node_entries_of size block)
leaf_data_row size (Data limit) target block = entries_row target size block

data_by : (inner : Bool) (named : ℕ) (names : Names) (target : ℕ → ℕ) (f : ℕ → ℕ) (entries : List Entry)
    → flat_map (λ (e : Entry). data_named names (target e.value)) entries ≡ map f (range_with_len 0 named)
    → flat_map (λ (e : Entry). data_named names (target e.value)) (cond inner [] entries) ≡ map f (range_with_len 0 (cond inner 0 named))
data_by true named names target f entries row = refl
data_by false named names target f entries row = row

data_row : (size : ℕ) (names : Names) (target : ℕ → ℕ) (block : List ℕ)
    → layout_data (tree (leaf_tree size names target)) block ≡ map (data_at size target block) (range_with_len 0 (data_number size names block))
unfolding leaf_entries
data_row size names target block =
    data_by (is_inner_node block) (if_data names (entry_count size block)) names target (data_at size target block)
    (node_entries_of size block) (leaf_data_row size names target block)

-- the number of metadata blocks that a node names, and each of them
pub edge_number_is : (role size : ℕ) (names : Names) (target : ℕ → ℕ) (block : List ℕ)
    → edge_number size names block ≡ length (tree_edges role (leaf_tree size names target) block)
edge_number_is role size names target block =
    rw (edges_row role size names target block) (sym (length-map-range_with_len (edge_at role size names target block) 0 (edge_number size names block)))

pub edge_found : (role size : ℕ) (names : Names) (target : ℕ → ℕ) (block : List ℕ) (i : ℕ) (edge : Edge)
    → i < length (tree_edges role (leaf_tree size names target) block) → edge ≡ edge_at role size names target block i
    → slice_get (tree_edges role (leaf_tree size names target) block) i ≡ Some edge
edge_found role size names target block i edge within same =
    let number = edge_number_is role size names target block in
    rw (edges_row role size names target block, same)
    (slice_get-row (edge_at role size names target block) (edge_number size names block) i (omega arith))

-- the number of data blocks that a node names, and each of them
pub data_number_is : (size : ℕ) (names : Names) (target : ℕ → ℕ) (block : List ℕ)
    → data_number size names block ≡ length (layout_data (tree (leaf_tree size names target)) block)
data_number_is size names target block =
    rw (data_row size names target block) (sym (length-map-range_with_len (data_at size target block) 0 (data_number size names block)))

pub data_found : (size : ℕ) (names : Names) (target : ℕ → ℕ) (block : List ℕ) (i : ℕ)
    → i < length (layout_data (tree (leaf_tree size names target)) block)
    → slice_get (layout_data (tree (leaf_tree size names target)) block) i ≡ Some (data_at size target block i)
data_found size names target block i within =
    let number = data_number_is size names target block in
    rw (data_row size names target block) (slice_get-row (data_at size target block) (data_number size names block) i (omega arith))

-- so an element of a list of what a node names belongs to an entry
below_either : (inner : Bool) (count i : ℕ) (names : Names) → i < cond inner count (if_metadata names count) → i < count
below_either true count i names within = within
below_either false count i (Metadata role) within = within
below_either false count i (MetadataByEra role) within = within
below_either false count i _ within = absurd (omega arith)

pub edge_entry : (role size : ℕ) (names : Names) (target : ℕ → ℕ) (block : List ℕ) (i : ℕ)
    → i < length (tree_edges role (leaf_tree size names target) block) → i < entry_count size block
edge_entry role size names target block i within =
    below_either (is_inner_node block) (entry_count size block) i names (rw (edge_number_is role size names target block) within)

-- of a leaf, where it names data
below_leaf : (inner : Bool) (count i : ℕ) (names : Names) → i < cond inner 0 (if_data names count) → (i < count) × (inner ≡ false)
below_leaf true count i names within = absurd (omega arith)
below_leaf false count i (Data limit) within = (within, refl)
below_leaf false count i _ within = absurd (omega arith)

pub data_entry : (size : ℕ) (names : Names) (target : ℕ → ℕ) (block : List ℕ) (i : ℕ)
    → i < length (layout_data (tree (leaf_tree size names target)) block) → (i < entry_count size block) × (is_inner_node block ≡ false)
data_entry size names target block i within =
    below_leaf (is_inner_node block) (entry_count size block) i names (rw (data_number_is size names target block) within)

-- the bitmaps that an index block names, in this role
index_row : (role nr : ℕ) (block : List ℕ)
    → map (edge_of role) (index_blocks nr block) ≡ map (λ i. edge_of role (index_block_at block i)) (range_with_len 0 (bitmaps_for nr))
unfolding index_blocks
index_row role nr block = map-map (edge_of role) (index_block_at block) (range_with_len 0 (bitmaps_for nr))

pub index_number_is : (role nr : ℕ) (block : List ℕ) → bitmaps_for nr ≡ length (map (edge_of role) (index_blocks nr block))
index_number_is role nr block =
    rw (index_row role nr block) (sym (length-map-range_with_len (λ i. edge_of role (index_block_at block i)) 0 (bitmaps_for nr)))

pub below_index : (role nr : ℕ) (block : List ℕ) (i : ℕ) → i < length (map (edge_of role) (index_blocks nr block)) → i < bitmaps_for nr
below_index role nr block i within = omega (arith, index_number_is role nr block)

pub index_found : (role nr : ℕ) (block : List ℕ) (i : ℕ) (edge : Edge) → i < length (map (edge_of role) (index_blocks nr block))
    → edge ≡ edge_of role (index_block_at block i) → slice_get (map (edge_of role) (index_blocks nr block)) i ≡ Some edge
index_found role nr block i edge within same =
    rw (index_row role nr block, same)
    (slice_get-row (λ i. edge_of role (index_block_at block i)) (bitmaps_for nr) i (below_index role nr block i within))

-- Outside a tree a block has no keys, and names no data blocks.

pub no_keys : (layout : Layout) (block : List ℕ) → is_tree_layout layout ≡ false → layout_keys layout block ≡ []
no_keys (tree t) block none = absurd (both_ways true none refl)
no_keys _ block none = refl

pub no_data : (layout : Layout) (block : List ℕ) → is_tree_layout layout ≡ false → layout_data layout block ≡ []
no_data (tree t) block none = absurd (both_ways true none refl)
no_data _ block none = refl
