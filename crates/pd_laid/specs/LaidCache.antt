-- Trusted base.
-- How a cache is laid in version 1 or 2: the mapping array, the hint array where there are hints, the array of
-- dirty bits in version 2, an empty discard tree, the metadata map. Roles are those of a cache's format.
use Rattle.std.specs.Prelude.{ℕ, ◌+◌, ◌*◌, ◌/◌, ◌^◌, Bool, false, ◌==◌, ◌&&◌, if◌then◌else◌, List, [], ◌∷◌, ◌++◌, length, map, sum, Option, Some, None}
use Rattle.std.specs.List.{find, range_with_len}
use Rattle.pd_kinds.specs.Layout.{tree_to}
use Rattle.pd_kinds.specs.CacheFormat.{CacheFields, cache_super_block, has_dirty_bits}
use Rattle.pd_kinds.specs.Meaning.{CacheEntry, CacheMeaning}
use Rattle.pd_laid.specs.Laid.{tree_root, LaidBlock, Laid, named_by, tree_of, laid_tree, laid_array, array_root, laid_meta_map, meta_overflow_root}

-- the entry of a cache block, where it is valid
unfoldable pub entry_of : CacheMeaning → ℕ → Option CacheEntry
entry_of m i = find (λ (e : CacheEntry). e.block == i) m.entries

-- its word: the origin, bit 1 where it is dirty in version 1, and bit 0
abbrev pub mapping_word : ℕ → Option CacheEntry → ℕ
mapping_word version None = 0
mapping_word version (Some e) = e.origin * 2 ^ 16 + (if e.dirty && version == 1 then 3 else 1)

abbrev pub hint_word : Option CacheEntry → ℕ
hint_word None = 0
hint_word (Some e) = e.hint

abbrev pub is_dirty : Option CacheEntry → Bool
is_dirty None = false
is_dirty (Some e) = e.dirty

-- the dirty bits of 64 cache blocks
unfoldable pub dirty_word : CacheMeaning → ℕ → ℕ
dirty_word m j = sum (map (λ i. if is_dirty (entry_of m (64 * j + i)) then 2 ^ i else 0) (range_with_len 0 64))

-- the words of the arrays
unfoldable pub mapping_words : CacheMeaning → ℕ → List ℕ
mapping_words m version = map (λ i. mapping_word version (entry_of m i)) (range_with_len 0 m.blocks)

unfoldable pub hint_words : CacheMeaning → List ℕ
hint_words m = map (λ i. hint_word (entry_of m i)) (range_with_len 0 m.blocks)

unfoldable pub dirty_words : CacheMeaning → List ℕ
dirty_words m = map (dirty_word m) (range_with_len 0 ((m.blocks + 63) / 64))

-- the mapping array, from block 1 on
unfoldable pub mapping_blocks : CacheMeaning → ℕ → List LaidBlock
mapping_blocks m version = laid_array 1 8 1 (mapping_words m version)

-- whether there are hints
abbrev pub has_hints : CacheMeaning → Bool
has_hints m = m.hint_size == 4

-- the hint array
abbrev pub hints_at : CacheMeaning → ℕ → ℕ
hints_at m version = 1 + length (mapping_blocks m version)

unfoldable pub hint_blocks : CacheMeaning → ℕ → List LaidBlock
hint_blocks m version = if has_hints m then laid_array 3 4 (hints_at m version) (hint_words m) else []

-- the array of dirty bits
abbrev pub dirty_at : CacheMeaning → ℕ → ℕ
dirty_at m version = hints_at m version + length (hint_blocks m version)

unfoldable pub dirty_blocks : CacheMeaning → ℕ → List LaidBlock
dirty_blocks m version = if has_dirty_bits version then laid_array 10 8 (dirty_at m version) (dirty_words m) else []

-- the discard tree, which is an empty leaf
abbrev pub discards_at : CacheMeaning → ℕ → ℕ
discards_at m version = dirty_at m version + length (dirty_blocks m version)

unfoldable pub discard_blocks : CacheMeaning → ℕ → List LaidBlock
discard_blocks m version = laid_tree 5 (tree_of (tree_to 8 6 (λ v. v))) (discards_at m version) []

-- all parts up to the metadata map, and where that begins
unfoldable pub cache_parts : CacheMeaning → ℕ → List LaidBlock
cache_parts m version =
    mapping_blocks m version ++ (hint_blocks m version ++ (dirty_blocks m version ++ discard_blocks m version))

abbrev pub meta_map_at : CacheMeaning → ℕ → ℕ
meta_map_at m version = discards_at m version + length (discard_blocks m version)

-- the roots that the superblock names, up to the metadata map's; 0 is none
abbrev pub mapping_root : CacheMeaning → ℕ → ℕ
mapping_root m version = array_root 8 1 (mapping_words m version)

abbrev pub hint_root : CacheMeaning → ℕ → ℕ
hint_root m version = if has_hints m then array_root 4 (hints_at m version) (hint_words m) else 0

abbrev pub dirty_root : CacheMeaning → ℕ → ℕ
dirty_root m version = if has_dirty_bits version then array_root 8 (dirty_at m version) (dirty_words m) else 0

abbrev pub discard_root : CacheMeaning → ℕ → ℕ
discard_root m version = tree_root 8 (discards_at m version) []

-- what block 0 and the parts name up to the metadata map: block 0 counts once
unfoldable pub cache_named : CacheMeaning → ℕ → List ℕ
cache_named m version =
    0 ∷ mapping_root m version
    ∷ ((if has_hints m then hint_root m version ∷ [] else [])
    ++ ((if has_dirty_bits version then dirty_root m version ∷ [] else [])
    ++ (discard_root m version ∷ named_by (cache_parts m version))))

unfoldable pub meta_map_blocks : CacheMeaning → ℕ → ℕ → List LaidBlock
meta_map_blocks m version n = laid_meta_map 7 n (meta_map_at m version) (cache_named m version)

-- the fields of the superblock, on a device of n blocks; flag bit 0 says that the cache was shut down cleanly
unfoldable pub cache_laid_fields : CacheMeaning → ℕ → ℕ → CacheFields
cache_laid_fields m version n = record {
  flags = if m.clean then 1 else 0;
  uuid = m.uuid;
  version = version;
  policy = m.policy;
  hint_size = m.hint_size;
  meta_map = record {
    blocks = n;
    allocated = meta_map_at m version + length (meta_map_blocks m version n);
    bitmap_root = meta_map_at m version;
    overflow_root = meta_overflow_root n (meta_map_at m version) (cache_named m version);
  };
  mapping_root = mapping_root m version;
  hint_root = hint_root m version;
  discard_root = discard_root m version;
  discard_size = 0;
  discard_blocks = 0;
  block_size = m.block_size;
  meta_block_size = 8;
  blocks = m.blocks;
  compat = 0;
  compat_ro = 0;
  incompat = 0;
  read_hits = 0;
  read_misses = 0;
  write_hits = 0;
  write_misses = 0;
  versions = m.versions;
  dirty_root = dirty_root m version;
}

-- what is laid of a cache in a version, on a device of n blocks
unfoldable pub laid_cache : CacheMeaning → ℕ → ℕ → Laid
laid_cache m version n = record {
  super_block = cache_super_block (cache_laid_fields m version n);
  blocks = cache_parts m version ++ meta_map_blocks m version n;
}
