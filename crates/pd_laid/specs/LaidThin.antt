-- Trusted base.
-- How a thin pool is laid: the shared leaves, the trees of its devices, the mapping tree, the details tree, the
-- data map, the metadata map. Roles are those of a thin pool's format.
use Rattle.std.specs.Prelude.{ℕ, ◌+◌, ◌%◌, ◌^◌, ◌==◌, not, List, [], ◌∷◌, ◌++◌, length, map}
use Rattle.std.specs.List.{count_by, flat_map, range_with_len, slice_get}
use Rattle.std.specs.Option.{unwrap_or}
use Rattle.pd_kinds.specs.Node.{Entry}
use Rattle.pd_kinds.specs.Field.{mapping_code, details_code}
use Rattle.pd_kinds.specs.Layout.{Tree, plain_tree, tree_to}
use Rattle.pd_kinds.specs.ThinFormat.{ThinFields, thin_super_block, mappings_tree}
use Rattle.pd_kinds.specs.Meaning.{Mapping, ThinPool}
use Rattle.pd_laid.specs.Laid.{tree_leaves, first_key, heads, inners_above, root_above, tree_root, LaidBlock, Laid, named_by, data_named_by, count_in, tree_of, laid_leaf, laid_inner, laid_tree, laid_bitmaps, index_items, overflow_items, laid_meta_map, meta_overflow_root}
use Rattle.pd_laid.specs.Shape.{Piece, own, shared, ShapeDevice, ThinShape, shape_of}

-- the entries of mappings
unfoldable pub mapping_items : List Mapping → List Entry
mapping_items mappings = map (λ (m : Mapping). record { key = m.virtual_block; value = mapping_code m.data_block m.time }) mappings

-- the shared leaves, which stand from block 1 on
abbrev pub shared_items : ThinShape → List (List Entry)
shared_items w = map mapping_items w.leaves

-- the pieces of a device; one without any has one empty leaf of its own
abbrev pub some_pieces : List Piece → List Piece
some_pieces [] = own [] ∷ []
some_pieces (piece ∷ pieces) = piece ∷ pieces

-- the own leaves of a piece: it is spread evenly over the fewest
abbrev pub own_leaves : Piece → List (List Entry)
own_leaves (own mappings) = tree_leaves 8 (mapping_items mappings)
own_leaves (shared number) = []

-- the own leaves of a device
abbrev pub device_leaves : ShapeDevice → List (List Entry)
device_leaves d = flat_map own_leaves (some_pieces d.pieces)

-- the row of the leaves of a piece, whose own leaves stand from a place on: a shared leaf stands behind block 0
-- and the shared leaves before it
abbrev pub piece_row : List (List Entry) → ℕ → Piece → List Entry
piece_row leaves place (own mappings) = heads place (own_leaves (own mappings))
piece_row leaves place (shared number) =
    record { key = first_key (unwrap_or (slice_get leaves number) []); value = 1 + number } ∷ []

abbrev pub pieces_row : List (List Entry) → ℕ → List Piece → List Entry
pieces_row leaves place [] = []
pieces_row leaves place (piece ∷ pieces) =
    piece_row leaves place piece ++ pieces_row leaves (place + length (own_leaves piece)) pieces

-- the row of all leaves of a device, in the order of their keys
unfoldable pub device_row : List (List Entry) → ℕ → ShapeDevice → List Entry
device_row leaves place d = pieces_row leaves place (some_pieces d.pieces)

-- the inner nodes above them, and the root: a device with one leaf has that leaf as its root
abbrev pub device_inners : List (List Entry) → ℕ → ShapeDevice → List (List Entry)
device_inners leaves place d = inners_above (place + length (device_leaves d)) (device_row leaves place d)

unfoldable pub device_root : List (List Entry) → ℕ → ShapeDevice → ℕ
device_root leaves place d = root_above (place + length (device_leaves d)) (device_row leaves place d)

-- what is laid of a device from a place on
unfoldable pub laid_device : Tree → List (List Entry) → ℕ → ShapeDevice → List LaidBlock
laid_device t leaves place d = map (laid_leaf 3 t) (device_leaves d) ++ map (laid_inner 3) (device_inners leaves place d)

unfoldable pub laid_devices : Tree → List (List Entry) → ℕ → List ShapeDevice → List LaidBlock
laid_devices t leaves place [] = []
laid_devices t leaves place (d ∷ devices) =
    laid_device t leaves place d ++ laid_devices t leaves (place + length (laid_device t leaves place d)) devices

-- the entries of the mapping tree: each device's id, and the root of its tree
unfoldable pub top_items : Tree → List (List Entry) → ℕ → List ShapeDevice → List Entry
top_items t leaves place [] = []
top_items t leaves place (d ∷ devices) =
    record { key = d.id; value = device_root leaves place d }
    ∷ top_items t leaves (place + length (laid_device t leaves place d)) devices

-- the entries of the details tree
unfoldable pub details_items : List ShapeDevice → List Entry
details_items devices =
    map (λ (d : ShapeDevice). record { key = d.id; value = details_code d.mapped d.transaction d.created d.snapped }) devices

-- the tree of mappings
abbrev pub mappings : ThinShape → Tree
mappings w = tree_of (mappings_tree w.data_blocks)

-- the leaves and inner nodes of all devices, the shared leaves first
abbrev pub devices_at : ThinShape → ℕ
devices_at w = 1 + length w.leaves

unfoldable pub device_blocks : ThinShape → List LaidBlock
device_blocks w =
    map (laid_leaf 3 (mappings w)) (shared_items w) ++ laid_devices (mappings w) (shared_items w) (devices_at w) w.devices

-- the mapping tree
abbrev pub tops_at : ThinShape → ℕ
tops_at w = 1 + length (device_blocks w)

abbrev pub tops : ThinShape → List Entry
tops w = top_items (mappings w) (shared_items w) (devices_at w) w.devices

unfoldable pub top_blocks : ThinShape → List LaidBlock
top_blocks w = laid_tree 2 (tree_of (tree_to 8 3 (λ v. v))) (tops_at w) (tops w)

-- the details tree
abbrev pub details_at : ThinShape → ℕ
details_at w = tops_at w + length (top_blocks w)

unfoldable pub details_blocks : ThinShape → List LaidBlock
details_blocks w = laid_tree 4 (tree_of (plain_tree 24)) (details_at w) (details_items w.devices)

-- how often the leaves name a data block: a shared leaf counts once
unfoldable pub data_counts : ThinShape → ℕ → ℕ
data_counts w d = count_in (data_named_by (device_blocks w)) d

-- the data bitmaps
abbrev pub bitmaps_at : ThinShape → ℕ
bitmaps_at w = details_at w + length (details_blocks w)

unfoldable pub bitmap_blocks : ThinShape → List LaidBlock
bitmap_blocks w = laid_bitmaps 6 (data_counts w) w.data_blocks

-- the tree of their index
abbrev pub index_at : ThinShape → ℕ
index_at w = bitmaps_at w + length (bitmap_blocks w)

abbrev pub data_index : ThinShape → List Entry
data_index w = index_items (data_counts w) w.data_blocks (bitmaps_at w)

unfoldable pub index_blocks : ThinShape → List LaidBlock
index_blocks w = laid_tree 5 (tree_of (tree_to 16 6 (λ v. v % 2 ^ 64))) (index_at w) (data_index w)

-- the data overflow tree
abbrev pub overflow_at : ThinShape → ℕ
overflow_at w = index_at w + length (index_blocks w)

abbrev pub data_overflow : ThinShape → List Entry
data_overflow w = overflow_items (data_counts w) w.data_blocks

unfoldable pub overflow_blocks : ThinShape → List LaidBlock
overflow_blocks w = laid_tree 7 (tree_of (plain_tree 4)) (overflow_at w) (data_overflow w)

-- all parts up to the metadata map, and where that begins
unfoldable pub pool_parts : ThinShape → List LaidBlock
pool_parts w =
    device_blocks w
    ++ (top_blocks w ++ (details_blocks w ++ (bitmap_blocks w ++ (index_blocks w ++ overflow_blocks w))))

abbrev pub meta_map_at : ThinShape → ℕ
meta_map_at w = overflow_at w + length (overflow_blocks w)

-- the roots that the superblock names, up to the metadata map's
abbrev pub mapping_root : ThinShape → ℕ
mapping_root w = tree_root 8 (tops_at w) (tops w)

abbrev pub details_root : ThinShape → ℕ
details_root w = tree_root 24 (details_at w) (details_items w.devices)

abbrev pub data_index_root : ThinShape → ℕ
data_index_root w = tree_root 16 (index_at w) (data_index w)

abbrev pub data_overflow_root : ThinShape → ℕ
data_overflow_root w = tree_root 4 (overflow_at w) (data_overflow w)

-- what block 0 and the parts name up to the metadata map: block 0 counts once
unfoldable pub pool_named : ThinShape → List ℕ
pool_named w =
    0 ∷ mapping_root w ∷ details_root w ∷ data_index_root w ∷ data_overflow_root w ∷ named_by (pool_parts w)

unfoldable pub meta_map_blocks : ThinShape → ℕ → List LaidBlock
meta_map_blocks w n = laid_meta_map 8 n (meta_map_at w) (pool_named w)

-- the fields of the superblock, on a device of n blocks. The allocated numbers are those of the blocks with a count
unfoldable pub pool_fields : ThinShape → ℕ → ThinFields
pool_fields w n = record {
  flags = 0;
  uuid = w.uuid;
  version = 2;
  time = w.time;
  transaction = w.transaction;
  held_root = 0;
  data_map = record {
    blocks = w.data_blocks;
    allocated = count_by (λ d. not (data_counts w d == 0)) (range_with_len 0 w.data_blocks);
    bitmap_root = data_index_root w;
    overflow_root = data_overflow_root w;
  };
  meta_map = record {
    blocks = n;
    allocated = meta_map_at w + length (meta_map_blocks w n);
    bitmap_root = meta_map_at w;
    overflow_root = meta_overflow_root n (meta_map_at w) (pool_named w);
  };
  mapping_root = mapping_root w;
  details_root = details_root w;
  block_size = w.block_size;
  meta_block_size = 8;
  meta_blocks = n;
  compat = 0;
  compat_ro = 0;
  incompat = 0;
}

-- what is laid of a shape on a device of n blocks, and of a meaning
unfoldable pub laid_shape : ThinShape → ℕ → Laid
laid_shape w n = record { super_block = thin_super_block (pool_fields w n); blocks = pool_parts w ++ meta_map_blocks w n }

unfoldable pub laid_pool : ThinPool → ℕ → Laid
laid_pool m n = laid_shape (shape_of m) n
