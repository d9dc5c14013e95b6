-- Trusted base.
-- What makes a block the superblock of one of the three kinds.
-- The root of a space map, as it stands in a superblock (struct disk_sm_root of
-- "drivers/md/persistent-data/dm-space-map-common.h").
use Rattle.std.specs.Prelude.{ℕ, Bool, ◌==◌, ◌&&◌, ◌||◌, not, List, [], ◌∷◌, ◌+◌}
use Rattle.pd_kinds.specs.declared.kind.Kind.{Kind}
use Rattle.pd_kinds.specs.declared.kind.Kind.TheVariants.{Thin, Cache, Era}
use Rattle.pd_kinds.specs.declared.rule.Rule.{Rule}
use Rattle.pd_kinds.specs.Rule.{Test, failing, alone}
use Rattle.pd_kinds.specs.Field.{Row, le, put_bytes, written, has_checksum, sealed}
use Rattle.pd_kinds.specs.declared.superblocks.SmRoot.{SmRoot}
use Rattle.pd_kinds.specs.declared.rule.Rule.TheVariants as r

-- the magic number, which stands in the eight bytes at offset 32
abbrev pub magic_of : Kind → ℕ
magic_of Thin = 27022010
magic_of Cache = 1623043
magic_of Era = 2126579579

-- the salt of the checksum
abbrev pub salt_of : Kind → ℕ
salt_of Thin = 160774
salt_of Cache = 9031977
salt_of Era = 146538381

-- the block has the checksum, the magic and place 0 of the kind
unfoldable pub is_super_of : Kind → List ℕ → Bool
is_super_of kind block = has_checksum block (salt_of kind) && ((le block 32 8 == magic_of kind) && (le block 8 8 == 0))

-- the rules of a superblock of a kind, or of a copy of it: a wrong checksum comes alone, and so does a
-- wrong magic; else each test is looked at by itself
abbrev pub super_rules : Kind → List ℕ → List Test → Rule → Bool
super_rules kind block tests =
    alone r.Checksum (not (has_checksum block (salt_of kind)))
    (alone r.Magic (not (le block 32 8 == magic_of kind))
    (failing tests))

-- a valid superblock, of any kind
unfoldable pub is_valid_super : List ℕ → Bool
is_valid_super block = is_super_of Thin block || (is_super_of Cache block || is_super_of Era block)

-- the numbers that the superblock of a kind begins with, for block 0: its place and its magic
abbrev pub head_rows : Kind → List Row
head_rows kind =
    record { offset = 8; size = 8; value = 0 } ∷ record { offset = 32; size = 8; value = magic_of kind } ∷ []

-- the superblock of a kind, for block 0, over a block with its other fields
unfoldable pub super_block : Kind → List ℕ → List ℕ → List ℕ
super_block kind uuid block = sealed (put_bytes (written block (head_rows kind)) 16 uuid) (salt_of kind)

-- its table from offset o on, by what is had of a number at an offset and of a size
abbrev pub map_table : (ℕ → ℕ → ℕ) → ℕ → SmRoot
map_table number o = record {
  blocks = number o 8;
  allocated = number (o + 8) 8;
  bitmap_root = number (o + 16) 8;
  overflow_root = number (o + 24) 8;
}

-- its numbers in a row
abbrev pub map_numbers : SmRoot → List ℕ
map_numbers map = map.blocks ∷ map.allocated ∷ map.bitmap_root ∷ map.overflow_root ∷ []

-- the space map root at offset o of a block
abbrev pub map_fields : List ℕ → ℕ → SmRoot
map_fields block o = map_table (le block) o
