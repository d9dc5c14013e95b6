-- Blocks that are each named once, up to a place.
-- A pool without shared leaves as one writes it who is given its devices one after another.
use Rattle.std.specs.Prelude.{◌≡◌, ℕ, nat_lt, if◌then◌else◌, List, ◌+◌, ◌*◌, [], ◌∷◌, ◌++◌, length, map, sum_by}
use Rattle.std.specs.List.{range_with_len}
use Rattle.pd_kinds.specs.Bitmap.{bitmap_salt, index_salt, placed_block, unsealed_index, bitmaps_for}
use Rattle.pd_kinds.specs.Meaning.{ThinDevice}
use Rattle.pd_kinds.specs.Node.{Entry}
use Rattle.pd_kinds.specs.Field.{details_code}
use Rattle.pd_grammar.specs.Need.{need_tree}
use Rattle.pd_laid.specs.Laid.{count_in, blocks_from, tree_blocks, tree_root, bitmap_of, index_entry_of, meta_overflow_at}
use Rattle.pd_laid.specs.LaidThin.{mapping_items}

-- the counts of blocks that are named once below a place, and not at all from there on
unfoldable pub ones_below : ℕ → ℕ → ℕ
ones_below place b = if nat_lt b place then 1 else 0

-- each block below the place stands in the list once, and no other block does
abbrev pub NamesEachOnce : ℕ → List ℕ → Type 0
NamesEachOnce place named = (b : ℕ) → count_in named b ≡ ones_below place b

-- how many blocks the trees of devices have
abbrev pub trees_need : List ThinDevice → ℕ
trees_need devices = sum_by (need_tree 8) (map (λ (d : ThinDevice). length d.mappings) devices)

-- their blocks, from a place on
unfoldable pub device_trees : ℕ → List ThinDevice → List (List ℕ)
device_trees place [] = []
device_trees place (d ∷ devices) =
    tree_blocks 8 place (mapping_items d.mappings) ++ device_trees (place + need_tree 8 (length d.mappings)) devices

-- the entries of the mapping tree: each device's id, and the root of its tree
unfoldable pub device_roots : ℕ → List ThinDevice → List Entry
device_roots place [] = []
device_roots place (d ∷ devices) =
    record { key = d.id; value = tree_root 8 place (mapping_items d.mappings) }
    ∷ device_roots (place + need_tree 8 (length d.mappings)) devices

-- the entries of the details tree
abbrev pub device_details : List ThinDevice → List Entry
device_details devices =
    map (λ (d : ThinDevice). record { key = d.id; value = details_code d.mapped d.transaction d.created d.snapped }) devices

-- the bitmaps of n blocks with these counts, from a place on
unfoldable pub bitmaps_from : (ℕ → ℕ) → ℕ → ℕ → List (List ℕ)
bitmaps_from counts n place =
    blocks_from (λ at (i : ℕ). placed_block bitmap_salt at (bitmap_of (λ e. counts (16320 * i + e)))) place (range_with_len 0 (bitmaps_for n))

-- the metadata map of n blocks from a place on: the index block, the bitmaps, and the overflow tree
unfoldable pub meta_map_from : (ℕ → ℕ) → List Entry → ℕ → ℕ → List (List ℕ)
meta_map_from counts overflow n place =
    placed_block index_salt place (unsealed_index (map (index_entry_of counts n (place + 1)) (range_with_len 0 (bitmaps_for n))))
    ∷ (bitmaps_from counts n (place + 1) ++ tree_blocks 4 (meta_overflow_at n place) overflow)
