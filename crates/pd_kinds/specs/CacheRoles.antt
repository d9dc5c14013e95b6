-- Trusted base.
-- The roles of a cache's metadata blocks ("drivers/md/dm-cache-metadata.c"), as cache_role of the code has them.
use Rattle.std.specs.Prelude.{ℕ}

abbrev pub superblock : ℕ
superblock = 0

-- a node of the mapping array's tree, and a block of the array
abbrev pub mapping_node : ℕ
mapping_node = 1

abbrev pub mapping_block : ℕ
mapping_block = 2

-- the same of the array of hints
abbrev pub hint_node : ℕ
hint_node = 3

abbrev pub hint_block : ℕ
hint_block = 4

-- the same of the bits of discarded blocks
abbrev pub discard_node : ℕ
discard_node = 5

abbrev pub discard_block : ℕ
discard_block = 6

-- the index block of the metadata bitmaps, such a bitmap, and a node of the metadata blocks' counts of three and more
abbrev pub meta_index : ℕ
meta_index = 7

abbrev pub meta_bitmap : ℕ
meta_bitmap = 8

abbrev pub meta_overflow : ℕ
meta_overflow = 9

-- a node of the tree of the dirty bits, which version 2 has, and a block of them
abbrev pub dirty_node : ℕ
dirty_node = 10

abbrev pub dirty_block : ℕ
dirty_block = 11

-- how many roles there are
abbrev pub roles : ℕ
roles = 12
