-- What stands beside the words of a mapping array, where many may be skipped.
-- What is left of bits of which many may be skipped.
-- What is left of the valid mappings of a cache, behind array blocks that may be passed.
use Rattle.std.specs.Prelude.{◌≡◌, ℕ, List, drop, slice_index, Bool, [], ◌∷◌, ◌++◌, Option, Some, None, IfSome, ◌+◌, ◌*◌}
use Rattle.pd_tree.specs.Cursor.{cursor_number}
use Rattle.pd_meaning_cache.specs.declared.skipped_words.SkippedBits.{SkippedBits}
use Rattle.pd_meaning_cache.specs.Rows.{bits_of, bits_behind, is_dirty_by, row_of, rows_of}
use Rattle.pd_meaning_cache.specs.SkippedWords.{KnowsLengths, skipped_words, block_words_number, KnowsIdle, map_words}
use Rattle.pd_meaning_cache.specs.declared.cache_rows.CacheRow.{CacheRow}
use Rattle.pd_meaning_cache.specs.declared.skipped_words.SkippedHints.{SkippedHints}
use Rattle.pd_meaning_cache.specs.declared.sides.Sides.{Sides}
use Rattle.pd_meaning_cache.specs.declared.cache_rows.CacheRows.{CacheRows}

-- the bits that are left
abbrev pub skipped_bits : List (List ℕ) → SkippedBits → List ℕ
skipped_bits image bits = drop bits.bit (bits_of (skipped_words image bits.words))

-- so many of what was left were skipped
pub record SkipsBits (image : List (List ℕ)) (n : ℕ) (old new : SkippedBits) : Type 0 where
  pub knows : KnowsLengths image new.words
  pub bits : skipped_bits image new ≡ drop n (skipped_bits image old)

-- the first one was looked at, or 0 where none was left
pub record IsFirstBit (image : List (List ℕ)) (first : ℕ) (old new : SkippedBits) : Type 0 where
  pub skips : SkipsBits image 0 old new
  pub first_is : first ≡ slice_index (skipped_bits image old) 0

-- the hints and the bits that are left, where there are any
abbrev pub hints_ahead : List (List ℕ) → Option SkippedHints → List ℕ
hints_ahead image None = []
hints_ahead image (Some hints) = skipped_words image hints.words

abbrev pub bits_ahead : List (List ℕ) → Option SkippedBits → Option (List ℕ)
bits_ahead image None = None
bits_ahead image (Some bits) = Some (skipped_bits image bits)

-- the lengths that are noted are those of the image's blocks
abbrev pub KnowsHints : List (List ℕ) → Option SkippedHints → Type 0
KnowsHints image hints = IfSome hints (λ hints. KnowsLengths image hints.words)

abbrev pub KnowsBits : List (List ℕ) → Option SkippedBits → Type 0
KnowsBits image bits = IfSome bits (λ bits. KnowsLengths image bits.words)

abbrev pub KnowsSides : List (List ℕ) → Sides → Type 0
KnowsSides image sides = KnowsHints image sides.hints × KnowsBits image sides.bits

-- the rows of these words, by what stands beside them
abbrev pub rows_with : List (List ℕ) → Sides → List ℕ → List CacheRow
rows_with image sides words = rows_of sides.block words (hints_ahead image sides.hints) (bits_ahead image sides.bits)

-- so many were skipped
pub record SkipsHints (image : List (List ℕ)) (n : ℕ) (old new : Option SkippedHints) : Type 0 where
  pub knows : KnowsHints image new
  pub hints : hints_ahead image new ≡ drop n (hints_ahead image old)

pub record SkipsDirty (image : List (List ℕ)) (n : ℕ) (old new : Option SkippedBits) : Type 0 where
  pub knows : KnowsBits image new
  pub bits : bits_ahead image new ≡ bits_behind n (bits_ahead image old)

pub record SkipsSides (image : List (List ℕ)) (n : ℕ) (old new : Sides) : Type 0 where
  pub hints : SkipsHints image n old.hints new.hints
  pub bits : SkipsDirty image n old.bits new.bits

-- the first ones were looked at
pub record IsFirstHint (image : List (List ℕ)) (hint : ℕ) (old new : Option SkippedHints) : Type 0 where
  pub skips : SkipsHints image 0 old new
  pub first_is : hint ≡ slice_index (hints_ahead image old) 0

pub record IsFirstDirty (image : List (List ℕ)) (word : ℕ) (dirty : Bool) (old new : Option SkippedBits) : Type 0 where
  pub skips : SkipsDirty image 0 old new
  pub first_is : dirty ≡ is_dirty_by (bits_ahead image old) word

pub record IsRow (image : List (List ℕ)) (word : ℕ) (row : CacheRow) (old new : Sides) : Type 0 where
  pub skips : SkipsSides image 0 old new
  pub row_is : row ≡ row_of old.block word (hints_ahead image old.hints) (bits_ahead image old.bits)

-- the row that was given, if one was
abbrev pub given : Option CacheRow → List CacheRow
given None = []
given (Some row) = row ∷ []

-- the row of a word was given, where the word maps a block
pub record Gives (image : List (List ℕ)) (word : ℕ) (row : Option CacheRow) (old new : Sides) : Type 0 where
  pub knows : KnowsSides image new
  pub rows : (words : List ℕ) → rows_with image old (word ∷ words) ≡ given row ++ rows_with image new words

-- the rows that are left, and a number that falls
abbrev pub rows_ahead : List (List ℕ) → CacheRows → List CacheRow
rows_ahead image rows = rows_with image rows.sides (map_words image rows.words)

abbrev pub rows_ahead_number : CacheRows → ℕ
rows_ahead_number rows = 4096 * cursor_number 8 rows.words.entries + block_words_number 8 rows.words.here

-- what is noted is so in this image
abbrev pub Knows : List (List ℕ) → CacheRows → Type 0
Knows image rows = KnowsIdle image rows.words × KnowsSides image rows.sides

-- the next word was taken, and what is left is that of it and of the others; none was where no row is left
pub record TakesNext (image : List (List ℕ)) (word : ℕ) (old new : CacheRows) : Type 0 where
  pub knows : Knows image new
  pub rows : rows_ahead image old ≡ rows_with image new.sides (word ∷ map_words image new.words)

pub record TakesNone (image : List (List ℕ)) (old new : CacheRows) : Type 0 where
  pub knows : Knows image new
  pub before : rows_ahead image old ≡ []
  pub after : rows_ahead image new ≡ []

abbrev pub GivesWord : List (List ℕ) → Option ℕ → CacheRows → CacheRows → Type 0
GivesWord image None old new = TakesNone image old new
GivesWord image (Some word) old new = TakesNext image word old new
