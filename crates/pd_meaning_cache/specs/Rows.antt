-- The valid mappings of a cache, as rows.
-- The words and the bits of an array.
-- What the cursor gives of a cache, as its entries.
use Rattle.std.specs.Prelude.{ℕ, zero, suc, ◌/◌, ◌%◌, List, [], ◌∷◌, ◌≡◌, ◌+◌, ◌-◌, ◌^◌, ◌<◌, min, Bool, ◌==◌, ◌&&◌, not, true, if◌then◌else◌, ◌++◌, drop, slice_index, Option, Some, None, length, map}
use Rattle.std.specs.List.{flat_map}
use Rattle.pd_kinds.specs.CacheFormat.{CacheFields, has_dirty_bits, cache_fields}
use Rattle.pd_kinds.specs.Whole.{is_dirty_word, is_valid_word, origin_of_word}
use Rattle.pd_kinds.specs.Graph.{block_at}
use Rattle.pd_kinds.specs.Meaning.{CacheEntry, cache_meaning}
use Rattle.pd_tree.specs.Below.{items_below}
use Rattle.pd_tree.specs.Cursor.{root_of, words_of_items}
use Rattle.pd_meaning_cache.specs.declared.cache_rows.CacheRow.{CacheRow}

-- the words of this size of the array with this root
abbrev pub words_below : ℕ → List (List ℕ) → ℕ → List ℕ
words_below size image root = words_of_items size image (items_below 8 root_of image 63 root)

-- the lowest bits of a word, from bit 0 on
abbrev pub low_bits : ℕ → ℕ → List ℕ
low_bits zero word = []
low_bits (suc n) word = word % 2 ∷ low_bits n (word / 2)

-- the bits of words
abbrev pub bits_of : List ℕ → List ℕ
bits_of words = flat_map (low_bits 64) words

-- the bits of the array with this root
abbrev pub bits_below : List (List ℕ) → ℕ → List ℕ
bits_below image root = bits_of (words_below 8 image root)

-- whether a block is dirty: by the first of the bits where there are bits, else by its word
abbrev pub is_dirty_by : Option (List ℕ) → ℕ → Bool
is_dirty_by None word = is_dirty_word word
is_dirty_by (Some bits) word = slice_index bits 0 == 1

-- the bits behind so many
abbrev pub bits_behind : ℕ → Option (List ℕ) → Option (List ℕ)
bits_behind n None = None
bits_behind n (Some bits) = Some (drop n bits)

-- the number of the block behind so many, which stays at the end of its type
abbrev pub block_after : ℕ → ℕ → ℕ
block_after n block = min (block + n) (2 ^ 64 - 1)

-- the row of a word, with the first hint and the first bit
abbrev pub row_of : ℕ → ℕ → List ℕ → Option (List ℕ) → CacheRow
row_of block word hints bits = record {
  block = block;
  origin = origin_of_word word;
  dirty = is_dirty_by bits word;
  hint = slice_index hints 0;
}

-- the rows of the valid words
unfoldable pub rows_of : ℕ → List ℕ → List ℕ → Option (List ℕ) → List CacheRow
rows_of block [] hints bits = []
rows_of block (word ∷ words) hints bits =
    (if is_valid_word word then row_of block word hints bits ∷ [] else [])
    ++ rows_of (block_after 1 block) words (drop 1 hints) (bits_behind 1 bits)

-- whether a cache has hints that are to be looked at
abbrev pub has_hints : CacheFields → Bool
has_hints fields = (fields.hint_size == 4) && not (fields.hint_root == 0)

-- its hints, and its dirty bits, where there are any
abbrev pub hints_below : List (List ℕ) → CacheFields → List ℕ
hints_below image fields = if has_hints fields then words_below 4 image fields.hint_root else []

abbrev pub dirty_below : List (List ℕ) → CacheFields → Option (List ℕ)
dirty_below image fields = if has_dirty_bits fields.version then Some (bits_below image fields.dirty_root) else None

-- the rows of the cache with this superblock
abbrev pub rows_below : List (List ℕ) → CacheFields → List CacheRow
rows_below image fields = rows_of 0 (words_below 8 image fields.mapping_root) (hints_below image fields) (dirty_below image fields)

-- the roots of a superblock that are read are below a number of blocks
pub record RootsBelow (blocks : ℕ) (fields : CacheFields) : Type 0 where
  pub mappings : fields.mapping_root < blocks
  pub hints : has_hints fields ≡ true → fields.hint_root < blocks
  pub dirty : has_dirty_bits fields.version ≡ true → fields.dirty_root < blocks

-- a row as an entry of the meaning
abbrev pub entry_of : CacheRow → CacheEntry
entry_of row = record { block = row.block; origin = row.origin; dirty = row.dirty; hint = row.hint }

-- what the cursor gives of an image are the entries of its meaning, and the roots that it reads are in the image
pub record GivesCache (image : List (List ℕ)) : Type 0 where
  pub entries : (cache_meaning image).entries ≡ map entry_of (rows_below image (cache_fields (block_at image 0)))
  pub roots : RootsBelow (length image) (cache_fields (block_at image 0))
