-- Trusted base.
-- The roles of an era target's metadata blocks ("drivers/md/dm-era-target.c"), as era_role of the code has them.
use Rattle.std.specs.Prelude.{ℕ}

-- the superblock, and the copy of one that a snapshot holds
abbrev pub superblock : ℕ
superblock = 0

abbrev pub snapshot : ℕ
snapshot = 1

-- a node of the tree of archived writesets, by era
abbrev pub writesets : ℕ
writesets = 2

-- a node of the tree of a writeset's bits, and a block of them
abbrev pub bit_node : ℕ
bit_node = 3

abbrev pub bit_block : ℕ
bit_block = 4

-- a node of the tree of the array of eras, and a block of it
abbrev pub era_node : ℕ
era_node = 5

abbrev pub era_block : ℕ
era_block = 6

-- the index block of the metadata bitmaps, such a bitmap, and a node of the metadata blocks' counts of three and more
abbrev pub meta_index : ℕ
meta_index = 7

abbrev pub meta_bitmap : ℕ
meta_bitmap = 8

abbrev pub meta_overflow : ℕ
meta_overflow = 9

-- how many roles there are
abbrev pub roles : ℕ
roles = 10
