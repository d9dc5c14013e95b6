-- The parts that a cache's superblock names.
-- The entries of a cache as rows, by ascending cache block.
-- The words of a cache's arrays, of its rows.
use Rattle.std.specs.Prelude.{◌≡◌, ℕ, if◌then◌else◌, ◌≤◌, ◌==◌, List, length, map, drop, Option, ◌+◌, ◌*◌, ◌^◌, sum}
use Rattle.std.specs.List.{find, range_with_len}
use Rattle.pd_kinds.specs.CacheFormat.{CacheFields}
use Rattle.pd_kinds.specs.Meaning.{CacheMeaning, CacheEntry}
use Rattle.pd_laid.specs.LaidCache.{cache_laid_fields, hint_word, is_dirty, mapping_word}
use Rattle.pd_salvage_cache.specs.declared.saved.CacheHead.{CacheHead}
use Rattle.pd_salvage_cache.specs.declared.saved.Row.{Row}
use Rattle.pd_salvage_cache.specs.SavedCache.{entry, AreRows}
use Rattle.pd_restore_kinds.specs.declared.cache_parts.CacheRoots.{CacheRoots}
use Rattle.pd_restore_kinds.specs.declared.cache_words.Words.{Words}
use Rattle.pd_restore_kinds.specs.declared.cache_words.Words.TheVariants.{Mapping, Hints, Dirty}

-- these are the roots of a cache in a version, where there is so much room
pub record AreParts (m : CacheMeaning) (version room : ℕ) (parts : CacheRoots) : Type 0 where
  pub mapping_root : parts.mapping_root ≡ (cache_laid_fields m version room).mapping_root
  pub hint_root : parts.hint_root ≡ (cache_laid_fields m version room).hint_root
  pub dirty_root : parts.dirty_root ≡ (cache_laid_fields m version room).dirty_root
  pub discard_root : parts.discard_root ≡ (cache_laid_fields m version room).discard_root
  pub meta_map : parts.meta_map ≡ (cache_laid_fields m version room).meta_map

-- the fields of the superblock
abbrev pub fields_of : CacheHead → CacheRoots → ℕ → CacheFields
fields_of c parts version = record {
  flags = if c.clean then 1 else 0;
  uuid = c.uuid;
  version = version;
  policy = c.policy;
  hint_size = c.hint_size;
  meta_map = parts.meta_map;
  mapping_root = parts.mapping_root;
  hint_root = parts.hint_root;
  discard_root = parts.discard_root;
  discard_size = 0;
  discard_blocks = 0;
  block_size = c.block_size;
  meta_block_size = 8;
  blocks = c.blocks;
  compat = 0;
  compat_ro = 0;
  incompat = 0;
  read_hits = 0;
  read_misses = 0;
  write_hits = 0;
  write_misses = 0;
  versions = c.versions;
  dirty_root = parts.dirty_root;
}

-- the entry of a cache block among rows
unfoldable pub found : List Row → ℕ → Option CacheEntry
found rows block = find (λ (e : CacheEntry). e.block == block) (map entry rows)

-- the rows from this index on are those of the cache blocks from this one on
pub record StandsAt (rows : List Row) (at block : ℕ) : Type 0 where
  pub within : at ≤ length rows
  pub passed : (b : ℕ) → block ≤ b → found rows b ≡ found (drop at rows) b
  pub ahead : AreRows block (drop at rows)

-- the size of a word in bytes
abbrev pub bytes_of : Words → ℕ
bytes_of (Mapping version) = 8
bytes_of Hints = 4
bytes_of Dirty = 8

-- how many cache blocks a word is of
abbrev pub span : Words → ℕ
span (Mapping version) = 1
span Hints = 1
span Dirty = 64

-- the dirty bits of so many cache blocks from one on
unfoldable pub bits_below : List Row → ℕ → ℕ → ℕ
bits_below rows first number = sum (map (λ i. if is_dirty (found rows (first + i)) then 2 ^ i else 0) (range_with_len 0 number))

-- a word
abbrev pub word_of : Words → List Row → ℕ → ℕ
word_of (Mapping version) rows i = mapping_word version (found rows i)
word_of Hints rows i = hint_word (found rows i)
word_of Dirty rows i = bits_below rows (64 * i) 64

-- so many of them
unfoldable pub words_of : Words → List Row → ℕ → List ℕ
words_of kind rows count = map (word_of kind rows) (range_with_len 0 count)
