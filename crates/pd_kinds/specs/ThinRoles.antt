-- Trusted base.
-- The roles of a thin pool's metadata blocks ("drivers/md/dm-thin-metadata.c"), as thin_role of the code has them.
use Rattle.std.specs.Prelude.{ℕ}

-- the superblock, and the held copy of one
abbrev pub superblock : ℕ
superblock = 0

abbrev pub held : ℕ
held = 1

-- a node of the mapping tree's top, by device; of a device's mappings, by virtual block; and of the details, by device
abbrev pub devices : ℕ
devices = 2

abbrev pub mappings : ℕ
mappings = 3

abbrev pub details : ℕ
details = 4

-- a node of the index of the data bitmaps, such a bitmap, and a node of the data blocks' counts of three and more
abbrev pub data_index : ℕ
data_index = 5

abbrev pub data_bitmap : ℕ
data_bitmap = 6

abbrev pub data_overflow : ℕ
data_overflow = 7

-- the index block of the metadata bitmaps, such a bitmap, and a node of the metadata blocks' counts of three and more
abbrev pub meta_index : ℕ
meta_index = 8

abbrev pub meta_bitmap : ℕ
meta_bitmap = 9

abbrev pub meta_overflow : ℕ
meta_overflow = 10

-- how many roles there are
abbrev pub roles : ℕ
roles = 11
