-- Trusted base.
-- A laid image: the superblock, then block after block what the parts of a format put there, each with the
-- role that it has and the blocks that it names. Trees are parts; arrays and space maps are made of them.
-- A tree as it is laid from a place on: its leaves, then each level above, every level spread evenly.
-- An array as it is laid from a place on: its blocks, each full but the last, then the tree that names them.
-- A space map as it is laid: bitmaps with the counts of blocks, an index of the bitmaps, and a tree of the
-- counts that two bits don't hold.
-- What a restore makes of a device.
use Rattle.std.specs.Prelude.{ℕ, zero, suc, ◌+◌, ◌-◌, ◌/◌, max, nat_lt, if◌then◌else◌, List, [], ◌∷◌, ◌++◌, length, take, drop, ◌≡◌, ◌==◌, false, map, ◌*◌, ◌%◌, min, not, ◌&&◌, filter, replicate}
use Rattle.std.specs.List.{count_by, flat_map, range_with_len}
use Rattle.pd_kinds.specs.Node.{Entry, max_entries, leaf_block, inner_block}
use Rattle.pd_kinds.specs.Graph.{Edge, edge_of}
use Rattle.pd_kinds.specs.Layout.{Layout, Tree, tree, tree_to, plain_tree}
use Rattle.pd_kinds.specs.Array.{array_block, max_words}
use Rattle.pd_kinds.specs.Bitmap.{bitmap_salt, index_salt, placed_block, unsealed_index, bitmaps_for}
use Rattle.pd_kinds.specs.Field.{index_code}
use Rattle.pd_grammar.specs.Need.{nodes_for}
use Rattle.pd_grammar.specs.Spelling.{Verdict, accepted, refused, no_room}

-- a list in so many parts, as even as can be: the first ones have one element more than the others
unfoldable pub even_parts : {X : Type 0} → ℕ → List X → List (List X)
even_parts zero xs = []
even_parts (suc k) xs = take ((length xs + k) / suc k) xs ∷ even_parts k (drop ((length xs + k) / suc k) xs)

-- a tree's leaves: the fewest that hold the items, and one at least
unfoldable pub tree_leaves : ℕ → List Entry → List (List Entry)
tree_leaves size items = even_parts (max 1 (nodes_for (max_entries size) (length items))) items

-- the key of the first entry, which is the least one
abbrev pub first_key : List Entry → ℕ
first_key [] = 0
first_key (e ∷ entries) = e.key

-- what the level above says of nodes that stand one after another from a place on: the least key of each,
-- and its place
unfoldable pub heads : ℕ → List (List Entry) → List Entry
heads place [] = []
heads place (node ∷ nodes) = record { key = first_key node; value = place } ∷ heads (place + 1) nodes

-- the inner nodes above a row of nodes, as they stand from a place on, in at most so many levels; the row
-- gives each node's least key and place
unfoldable pub levels_above : ℕ → ℕ → List Entry → List (List Entry)
levels_above zero place row = []
levels_above (suc k) place row =
    if nat_lt 1 (length row)
    then (let level = even_parts (nodes_for (max_entries 8) (length row)) row in level ++ levels_above k (place + length level) (heads place level))
    else []

-- all of them: ten levels are more than 2 ^ 64 nodes need
abbrev pub inners_above : ℕ → List Entry → List (List Entry)
inners_above place row = levels_above 10 place row

-- the place that the first entry of a row gives
abbrev pub first_place : List Entry → ℕ
first_place [] = 0
first_place (e ∷ entries) = e.value

-- the root of a tree with this row of leaves, whose inner nodes stand from a place on: the last of them, or
-- the only leaf where there are none
unfoldable pub root_above : ℕ → List Entry → ℕ
root_above place row = if nat_lt 1 (length row) then place + length (inners_above place row) - 1 else first_place row

-- the row of a tree's leaves from a place on, and the place behind them
abbrev pub leaf_row : ℕ → ℕ → List Entry → List Entry
leaf_row size place items = heads place (tree_leaves size items)

abbrev pub behind_leaves : ℕ → ℕ → List Entry → ℕ
behind_leaves size place items = place + length (tree_leaves size items)

-- a tree's inner nodes, and its root
abbrev pub tree_inners : ℕ → ℕ → List Entry → List (List Entry)
tree_inners size place items = inners_above (behind_leaves size place items) (leaf_row size place items)

abbrev pub tree_root : ℕ → ℕ → List Entry → ℕ
tree_root size place items = root_above (behind_leaves size place items) (leaf_row size place items)

-- what is written one after another from a place on
unfoldable pub blocks_from : {X : Type 0} → (ℕ → X → List ℕ) → ℕ → List X → List (List ℕ)
blocks_from write place [] = []
blocks_from write place (x ∷ xs) = write place x ∷ blocks_from write (place + 1) xs

-- a tree's blocks
unfoldable pub tree_blocks : ℕ → ℕ → List Entry → List (List ℕ)
tree_blocks size place items =
    blocks_from (leaf_block size) place (tree_leaves size items)
    ++ blocks_from inner_block (behind_leaves size place items) (tree_inners size place items)

-- a block that is laid: its role, what is written at its place, and the blocks and the data blocks that it names
pub record LaidBlock : Type 0 where
  pub role : ℕ
  pub written : ℕ → List ℕ
  pub edges : List Edge
  pub data_refs : List ℕ

-- the metadata blocks that blocks name, and the data blocks
unfoldable pub named_by : List LaidBlock → List ℕ
named_by blocks = flat_map (λ (b : LaidBlock). map (λ (edge : Edge). edge.block) b.edges) blocks

unfoldable pub data_named_by : List LaidBlock → List ℕ
data_named_by blocks = flat_map (λ (b : LaidBlock). b.data_refs) blocks

-- how often a block is named
abbrev pub count_in : List ℕ → ℕ → ℕ
count_in named b = count_by (λ r. r == b) named

-- the tree that a layout is of; what isn't one has values of no bytes, which name nothing
abbrev pub tree_of : Layout → Tree
tree_of (tree t) = t
tree_of _ = record { size = 0; leaf_edges = λ e. []; leaf_data = λ e. []; is_beyond = λ e. false }

-- a leaf of a tree in a role
abbrev pub laid_leaf : ℕ → Tree → List Entry → LaidBlock
laid_leaf role t entries = record {
  role = role;
  written = λ place. leaf_block t.size place entries;
  edges = flat_map t.leaf_edges entries;
  data_refs = flat_map t.leaf_data entries;
}

-- an inner node
abbrev pub laid_inner : ℕ → List Entry → LaidBlock
laid_inner role entries = record {
  role = role;
  written = λ place. inner_block place entries;
  edges = map (λ (e : Entry). edge_of role e.value) entries;
  data_refs = [];
}

-- a tree of these items from a place on
unfoldable pub laid_tree : ℕ → Tree → ℕ → List Entry → List LaidBlock
laid_tree role t place items =
    map (laid_leaf role t) (tree_leaves t.size items) ++ map (laid_inner role) (tree_inners t.size place items)

-- what is laid: the superblock, and the blocks from block 1 on
pub record Laid : Type 0 where
  pub super_block : List ℕ
  pub blocks : List LaidBlock

-- how many blocks it takes
abbrev pub laid_number : Laid → ℕ
laid_number laid = 1 + length laid.blocks

-- laid blocks as they are written from a place on
abbrev pub written_from : ℕ → List LaidBlock → List (List ℕ)
written_from place blocks = blocks_from (λ at (b : LaidBlock). b.written at) place blocks

-- what is written of it
unfoldable pub laid_blocks : Laid → List (List ℕ)
laid_blocks laid = laid.super_block ∷ written_from 1 laid.blocks

-- the image that has it laid over a base: as long as the base, first the laid blocks, and behind them what
-- the base has there
pub record IsLaid (laid : Laid) (base image : List (List ℕ)) : Type 0 where
  pub number : length image ≡ length base
  pub first : take (laid_number laid) image ≡ laid_blocks laid
  pub rest : drop (laid_number laid) image ≡ drop (laid_number laid) base

-- so many pieces of a list, each of so many elements as long as there are any
unfoldable pub pieces : ℕ → ℕ → List ℕ → List (List ℕ)
pieces most zero words = []
pieces most (suc k) words = take most words ∷ pieces most k (drop most words)

-- the words of each block of an array
abbrev pub array_pieces : ℕ → List ℕ → List (List ℕ)
array_pieces size words = pieces (max_words size) (nodes_for (max_words size) (length words)) words

-- the entries of an array's tree: each of so many blocks by its number
unfoldable pub array_items : ℕ → ℕ → List Entry
array_items place number = map (λ (i : ℕ). record { key = i; value = place + i }) (range_with_len 0 number)

-- a block of an array in a role
abbrev pub laid_words : ℕ → ℕ → List ℕ → LaidBlock
laid_words role size words = record { role = role; written = λ place. array_block size place words; edges = []; data_refs = [] }

-- an array of words of this size: its tree is in the role, and its blocks are in the next one
unfoldable pub laid_array : ℕ → ℕ → ℕ → List ℕ → List LaidBlock
laid_array role size place words =
    let blocks = array_pieces size words in
    map (laid_words (role + 1) size) blocks
    ++ laid_tree role (tree_of (tree_to 8 (role + 1) (λ v. v))) (place + length blocks) (array_items place (length blocks))

-- the root of its tree
unfoldable pub array_root : ℕ → ℕ → List ℕ → ℕ
array_root size place words =
    let number = length (array_pieces size words) in tree_root 8 (place + number) (array_items place number)

-- a count in two bits, the high bit first, where 3 stands for 3 and all above
abbrev pub coded : ℕ → ℕ
coded count = min 3 count / 2 + 2 * (min 3 count % 2)

-- byte j of a bitmap, which has four counts
unfoldable pub count_byte : (ℕ → ℕ) → ℕ → ℕ
count_byte counts j =
    coded (counts (4 * j)) + 4 * coded (counts (4 * j + 1)) + 16 * coded (counts (4 * j + 2)) + 64 * coded (counts (4 * j + 3))

-- the bitmap of 16320 counts, that isn't sealed yet
unfoldable pub bitmap_of : (ℕ → ℕ) → List ℕ
bitmap_of counts = replicate 16 0 ++ map (count_byte counts) (range_with_len 0 4080)

-- bitmap i of a map
abbrev pub laid_bitmap : ℕ → (ℕ → ℕ) → ℕ → LaidBlock
laid_bitmap role counts i = record {
  role = role;
  written = λ place. placed_block bitmap_salt place (bitmap_of (λ e. counts (16320 * i + e)));
  edges = [];
  data_refs = [];
}

-- the bitmaps of n blocks. Nothing names a block past the last one, so its bits are 0
unfoldable pub laid_bitmaps : ℕ → (ℕ → ℕ) → ℕ → List LaidBlock
laid_bitmaps role counts n = map (laid_bitmap role counts) (range_with_len 0 (bitmaps_for n))

-- how many of the blocks below n that bitmap i covers have a count of 0
unfoldable pub free_in : (ℕ → ℕ) → ℕ → ℕ → ℕ
free_in counts n i = count_by (λ e. nat_lt (16320 * i + e) n && counts (16320 * i + e) == 0) (range_with_len 0 16320)

-- the index entry of bitmap i, of bitmaps from a place on; none free before it is written as 0
abbrev pub index_entry_of : (ℕ → ℕ) → ℕ → ℕ → ℕ → ℕ
index_entry_of counts n place i = index_code (place + i) (free_in counts n i) 0

-- the entries of an index tree, for the bitmaps of n blocks from a place on
unfoldable pub index_items : (ℕ → ℕ) → ℕ → ℕ → List Entry
index_items counts n place =
    map (λ (i : ℕ). record { key = i; value = index_entry_of counts n place i }) (range_with_len 0 (bitmaps_for n))

-- the counts of blocks below n that two bits don't hold
unfoldable pub overflow_items : (ℕ → ℕ) → ℕ → List Entry
overflow_items counts n =
    map (λ (b : ℕ). record { key = b; value = counts b }) (filter (λ b. not (nat_lt (counts b) 3)) (range_with_len 0 n))

-- the index block of n blocks, for bitmaps in the next role from a place on
abbrev pub laid_index : ℕ → (ℕ → ℕ) → ℕ → ℕ → LaidBlock
laid_index role counts n place = record {
  role = role;
  written = λ at. placed_block index_salt at (unsealed_index (map (index_entry_of counts n place) (range_with_len 0 (bitmaps_for n))));
  edges = map (λ i. edge_of (role + 1) (place + i)) (range_with_len 0 (bitmaps_for n));
  data_refs = [];
}

-- The metadata map of n blocks from a place on: the index block in its role, the bitmaps in the next one, and
-- the overflow tree in the one after. Named is what block 0 and all blocks before the map name.

-- the counts that two bits don't hold: no block of the map is among them
abbrev pub meta_overflow : ℕ → List ℕ → List Entry
meta_overflow n named = overflow_items (count_in named) n

-- where the overflow tree begins
abbrev pub meta_overflow_at : ℕ → ℕ → ℕ
meta_overflow_at n place = place + 1 + bitmaps_for n

unfoldable pub meta_overflow_blocks : ℕ → ℕ → ℕ → List ℕ → List LaidBlock
meta_overflow_blocks role n place named =
    laid_tree (role + 2) (tree_of (plain_tree 4)) (meta_overflow_at n place) (meta_overflow n named)

-- how many blocks the map has
abbrev pub meta_map_number : ℕ → ℕ → ℕ → List ℕ → ℕ
meta_map_number role n place named = 1 + bitmaps_for n + length (meta_overflow_blocks role n place named)

-- the counts that it stores: how often each block is named, where each block of the map is named once, by the
-- superblock or by the map
unfoldable pub meta_counts : ℕ → ℕ → ℕ → List ℕ → ℕ → ℕ
meta_counts role n place named b = count_in (named ++ range_with_len place (meta_map_number role n place named)) b

unfoldable pub laid_meta_map : ℕ → ℕ → ℕ → List ℕ → List LaidBlock
laid_meta_map role n place named =
    let counts = meta_counts role n place named in
    laid_index role counts n (place + 1) ∷ (laid_bitmaps (role + 1) counts n ++ meta_overflow_blocks role n place named)

-- the root of its overflow tree
abbrev pub meta_overflow_root : ℕ → ℕ → List ℕ → ℕ
meta_overflow_root n place named = tree_root 4 (meta_overflow_at n place) (meta_overflow n named)

-- an image is made where the text is accepted: what it spells is laid over what the device held
abbrev pub Makes : {M : Type 0} → (M → ℕ → Laid) → ℕ → Verdict M → List (List ℕ) → List (List ℕ) → Type 0
Makes laid room (accepted m) old new = IsLaid (laid m room) old new
Makes laid room (refused why) old new = ⊥
Makes laid room (no_room needed blocks) old new = ⊥
