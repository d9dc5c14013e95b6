-- How often the metadata blocks of a pool with shared leaves are named: a shared leaf as often as devices use it.
-- A pool with shared leaves as one writes it who is given its leaves and then its devices one after another.
use Rattle.std.specs.Prelude.{ℕ, ◌-◌, nat_le, ◌&&◌, ◌==◌, if◌then◌else◌, List, count_by, ◌≡◌, ◌+◌, ◌≤◌, [], ◌∷◌, ◌++◌, length, map, sum_by}
use Rattle.std.specs.List.{flat_map}
use Rattle.pd_kinds.specs.Bitmap.{bitmaps_for}
use Rattle.pd_kinds.specs.Meaning.{Mapping}
use Rattle.pd_kinds.specs.Node.{Entry, leaf_block, inner_block}
use Rattle.pd_grammar.specs.Need.{need_tree}
use Rattle.pd_laid.specs.Laid.{written_from, blocks_from, tree_blocks}
use Rattle.pd_laid.specs.LaidThin.{mapping_items, shared_items, some_pieces, own_leaves, device_leaves, device_inners, device_root, devices_at, tops_at, details_at, details_items, bitmaps_at, bitmap_blocks, index_at, index_blocks, overflow_at, overflow_blocks, data_overflow, meta_map_at, meta_map_blocks}
use Rattle.pd_laid.specs.Shape.{Piece, ShapeDevice, ThinShape, own, shared}
use Rattle.pd_laid.specs.PoolText.{leaves_of_pieces, need_of_leaves}
use Rattle.pd_laws_laid.specs.Once.{ones_below}

-- the leaves stand from block 1 on and are used so often; each other block below the end is named once
unfoldable pub named_times : (ℕ → ℕ) → ℕ → ℕ → ℕ → ℕ
named_times uses leaves end b = if nat_le 1 b && nat_le b leaves then uses (b - 1) else ones_below end b

-- how often each leaf is used
abbrev pub used_times : List ℕ → ℕ → ℕ
used_times uses number = count_by (λ used. used == number) uses

-- leaves with these mappings, one block each, from a place on
abbrev pub leaf_blocks_from : ℕ → List (List Mapping) → List (List ℕ)
leaf_blocks_from place leaves = blocks_from (leaf_block 8) place (map mapping_items leaves)

-- the own leaves of some pieces, from a place on
abbrev pub own_blocks_from : ℕ → List Piece → List (List ℕ)
own_blocks_from place pieces = blocks_from (leaf_block 8) place (flat_map own_leaves pieces)

-- the tree of a device from a place on, over the items of the shared leaves: its own leaves, and the levels above all its
-- leaves
unfoldable pub device_tree : List (List Entry) → ℕ → ShapeDevice → List (List ℕ)
device_tree leaves place d =
    own_blocks_from place (some_pieces d.pieces)
    ++ blocks_from inner_block (place + length (device_leaves d)) (device_inners leaves place d)

-- the trees of devices, one behind another
unfoldable pub device_trees : List (List Entry) → ℕ → List ShapeDevice → List (List ℕ)
device_trees leaves place [] = []
device_trees leaves place (d ∷ ds) =
    device_tree leaves place d ++ device_trees leaves (place + length (device_tree leaves place d)) ds

-- the entries of the mapping tree: each device's id, and the root of its tree
unfoldable pub device_roots : List (List Entry) → ℕ → List ShapeDevice → List Entry
device_roots leaves place [] = []
device_roots leaves place (d ∷ ds) =
    record { key = d.id; value = device_root leaves place d }
    ∷ device_roots leaves (place + length (device_tree leaves place d)) ds

-- all shared leaves, and the trees of all devices behind them
unfoldable pub leaves_and_trees : List (List Mapping) → List ShapeDevice → List (List ℕ)
leaves_and_trees leaves ds =
    leaf_blocks_from 1 leaves ++ device_trees (map mapping_items leaves) (1 + length leaves) ds

-- the blocks of a laid pool from block 1 on, part behind part
unfoldable pub shape_parts : ThinShape → ℕ → List (List ℕ)
shape_parts w n =
    leaves_and_trees w.leaves w.devices
    ++ (tree_blocks 8 (tops_at w) (device_roots (shared_items w) (devices_at w) w.devices)
    ++ (tree_blocks 24 (details_at w) (details_items w.devices)
    ++ (written_from (bitmaps_at w) (bitmap_blocks w ++ (index_blocks w ++ overflow_blocks w))
    ++ written_from (meta_map_at w) (meta_map_blocks w n))))

-- an own piece has a mapping
abbrev pub IsFilled : Piece → Type 0
IsFilled (own mappings) = 1 ≤ length mappings
IsFilled (shared number) = Unit {0}

-- how many blocks the trees of devices have
abbrev pub trees_need : List ShapeDevice → ℕ
trees_need ds = sum_by need_of_leaves (map (λ (d : ShapeDevice). leaves_of_pieces d.pieces) ds)

-- where the parts begin
pub record AreShapePlaces (w : ThinShape) : Type 0 where
  pub tops : tops_at w ≡ 1 + length (leaves_and_trees w.leaves w.devices)
  pub trees : length (leaves_and_trees w.leaves w.devices) ≡ length w.leaves + trees_need w.devices
  pub details : details_at w ≡ tops_at w + need_tree 8 (length w.devices)
  pub bitmaps : bitmaps_at w ≡ details_at w + need_tree 24 (length w.devices)
  pub index : index_at w ≡ bitmaps_at w + bitmaps_for w.data_blocks
  pub overflow : overflow_at w ≡ index_at w + need_tree 16 (bitmaps_for w.data_blocks)
  pub meta_map : meta_map_at w ≡ overflow_at w + need_tree 4 (length (data_overflow w))
