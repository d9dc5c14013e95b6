-- Trusted base.
-- A bitmap of a space map, and the index block of the metadata's space map, as struct
-- disk_bitmap_header and struct disk_metadata_index of
-- "drivers/md/persistent-data/dm-space-map-common.h".
use Rattle.std.specs.Prelude.{ℕ, ◌+◌, ◌*◌, ◌/◌, ◌%◌, Bool, ◌==◌, not, List, [], ◌∷◌, map, slice_index}
use Rattle.std.specs.List.{range_with_len, list_any}
use Rattle.std.specs.Int.{bit_at}
use Rattle.pd_kinds.specs.declared.rule.Rule.{Rule}
use Rattle.pd_kinds.specs.Field.{le, put, zeros, has_checksum, sealed}
use Rattle.pd_kinds.specs.Rule.{Test, failing, alone}
use Rattle.pd_kinds.specs.Graph.{is_outside}
use Rattle.pd_kinds.specs.Node.{puts}
use Rattle.pd_kinds.specs.declared.rule.Rule.TheVariants as r

-- the salts of the two checksums
abbrev pub bitmap_salt : ℕ
bitmap_salt = 240779

abbrev pub index_salt : ℕ
index_salt = 160478

-- the place of a bitmap and of an index block
abbrev pub map_place : List ℕ → ℕ
map_place block = le block 8 8

-- how many bitmaps cover so many blocks: each has 16320 counts
abbrev pub bitmaps_for : ℕ → ℕ
bitmaps_for nr = (nr + 16319) / 16320

-- the rules that the bitmap in this place breaks: a wrong checksum comes alone
unfoldable pub bitmap_bad : ℕ → List ℕ → Rule → Bool
bitmap_bad place block =
    alone r.Checksum (not (has_checksum block bitmap_salt))
    (failing (record { rule = r.Place; fails = not (map_place block == place) } ∷ []))

-- the two bits of entry e: the high bit is bit 2 (e mod 4) of byte 16 + e / 4, the low bit the next one
unfoldable pub two_bits_of : List ℕ → ℕ → ℕ
two_bits_of block e =
    let byte = slice_index block (16 + e / 4) in
    2 * bit_at byte (2 * (e % 4)) + bit_at byte (2 * (e % 4) + 1)

-- the block that entry i of an index block names
abbrev pub index_block_at : List ℕ → ℕ → ℕ
index_block_at block i = le block (16 + 16 * i) 8

-- entry i of an index block, as a number of 16 bytes
abbrev pub index_code_at : List ℕ → ℕ → ℕ
index_code_at block i = le block (16 + 16 * i) 16

-- the blocks that an index block names for so many metadata blocks
unfoldable pub index_blocks : ℕ → List ℕ → List ℕ
index_blocks nr block = map (index_block_at block) (range_with_len 0 (bitmaps_for nr))

-- the rules that the index block in this place breaks, for so many metadata blocks
unfoldable pub index_tests : ℕ → ℕ → List ℕ → List Test
index_tests nr place block =
    record { rule = r.Pointer; fails = list_any (λ (b : ℕ). is_outside nr b) (index_blocks nr block) }
    ∷ record { rule = r.Place; fails = not (map_place block == place) }
    ∷ []

unfoldable pub index_bad : ℕ → ℕ → List ℕ → Rule → Bool
index_bad nr place block =
    alone r.Checksum (not (has_checksum block index_salt)) (failing (index_tests nr place block))

-- a bitmap or an index block in its place, sealed
unfoldable pub placed_block : ℕ → ℕ → List ℕ → List ℕ
placed_block salt place block = sealed (put block 8 8 place) salt

-- an index block of these entries, each a number of 16 bytes, that isn't sealed yet
unfoldable pub unsealed_index : List ℕ → List ℕ
unsealed_index codes = puts zeros 16 16 codes
