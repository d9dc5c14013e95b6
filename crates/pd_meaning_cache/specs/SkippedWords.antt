-- What is left of an array's words of which many may be skipped.
-- The words that are left of a block.
-- What is noted of array blocks.
-- What is left of the words of a mapping array.
use Rattle.std.specs.Prelude.{◌≡◌, ℕ, ◌-◌, suc, List, [], ◌∷◌, Option, Some, None, ◌⊎◌, slice_index_or, ◌++◌, drop, length, slice_index, false}
use Rattle.std.specs.List.{list_any}
use Rattle.pd_kinds.specs.Array.{word_count}
use Rattle.pd_kinds.specs.Graph.{block_at}
use Rattle.pd_kinds.specs.Whole.{is_valid_word}
use Rattle.pd_array.specs.declared.array.Word.{Word}
use Rattle.pd_array.specs.Word.{size_of}
use Rattle.pd_graph.specs.Marks.{values_of}
use Rattle.pd_tree.specs.Cursor.{words_from, cursor_items, root_of, words_of_items}
use Rattle.pd_meaning_cache.specs.declared.block_words.BlockWords.{BlockWords}
use Rattle.pd_meaning_cache.specs.declared.block_words.Lengths.{Lengths}
use Rattle.pd_meaning_cache.specs.declared.skipped_words.SkippedWords.{SkippedWords}
use Rattle.pd_meaning_cache.specs.declared.cache_rows.MapWords.{MapWords}

abbrev pub block_words : ℕ → BlockWords → List ℕ
block_words size words = words_from size words.block.0 words.next

-- how many there are
abbrev pub block_words_number : ℕ → BlockWords → ℕ
block_words_number size words = word_count size words.block.0 - words.next

-- the first word was taken, and none where none was left
abbrev pub TakesFirst : ℕ → Option ℕ → BlockWords → BlockWords → Type 0
TakesFirst size None old new = (new ≡ old) × (block_words size old ≡ [])
TakesFirst size (Some word) old new =
    (block_words size old ≡ word ∷ block_words size new) × (block_words_number size old ≡ suc (block_words_number size new))

-- what is kept for a block: one more than the length that is noted of it, or 0
abbrev pub noted : Lengths → ℕ → ℕ
noted lengths b = slice_index_or (values_of lengths.kept) b 0

-- this holds of each block and the length that is noted of it
abbrev pub AreNoted : (ℕ → ℕ → Type 0) → Lengths → Type 0
AreNoted Holds lengths = (b n : ℕ) → noted lengths b ≡ suc n → Holds b n

-- a length was noted of a block, or nothing, and nothing else
abbrev pub Notes : ℕ → ℕ → Lengths → Lengths → Type 0
Notes b length old new = (c n : ℕ) → noted new c ≡ suc n → (noted old c ≡ suc n) ⊎ ((c ≡ b) × (n ≡ length))

-- the words that are left behind those that are skipped
abbrev pub skipped_words : List (List ℕ) → SkippedWords → List ℕ
skipped_words image words =
    drop words.behind (block_words (size_of words.word) words.here ++ words_of_items (size_of words.word) image (cursor_items 8 root_of image words.entries))

-- a block has so many words
abbrev pub IsLength : List (List ℕ) → Word → ℕ → ℕ → Type 0
IsLength image word b n = length (words_from (size_of word) (block_at image b) 0) ≡ n

-- each length that is noted is that of the image's block
abbrev pub KnowsLengths : List (List ℕ) → SkippedWords → Type 0
KnowsLengths image words = AreNoted (IsLength image words.word) words.lengths

-- so many of what was left were skipped
pub record Skips (image : List (List ℕ)) (n : ℕ) (old new : SkippedWords) : Type 0 where
  pub knows : KnowsLengths image new
  pub words : skipped_words image new ≡ drop n (skipped_words image old)

-- the first one was looked at, or 0 where none was left
pub record IsFirst (image : List (List ℕ)) (first : ℕ) (old new : SkippedWords) : Type 0 where
  pub skips : Skips image 0 old new
  pub first_is : first ≡ slice_index (skipped_words image old) 0

-- a block has only words that are skipped, and so many are to be skipped behind it
abbrev pub IsSkippedWhole : List (List ℕ) → ℕ → ℕ → SkippedWords → Type 0
IsSkippedWhole image b behind words = (rest : List ℕ) → drop words.behind (words_from (size_of words.word) (block_at image b) 0 ++ rest) ≡ drop behind rest

-- a block was entered, or passed with what is skipped
pub record Enters (image : List (List ℕ)) (b : ℕ) (old new : SkippedWords) : Type 0 where
  pub knows : KnowsLengths image new
  pub words : (rest : List ℕ) → drop new.behind (block_words (size_of new.word) new.here ++ rest) ≡ drop old.behind (words_from (size_of old.word) (block_at image b) 0 ++ rest)

-- the words that are left
abbrev pub map_words : List (List ℕ) → MapWords → List ℕ
map_words image words = block_words 8 words.here ++ words_of_items 8 image (cursor_items 8 root_of image words.entries)

-- there are so many words, and none of them maps a block
abbrev pub AreIdle : ℕ → List ℕ → Type 0
AreIdle n words = (length words ≡ n) × (list_any is_valid_word words ≡ false)

-- each block that is noted has so many words, and none of them maps a block
abbrev pub KnowsIdle : List (List ℕ) → MapWords → Type 0
KnowsIdle image words = AreNoted (λ b n. AreIdle n (words_from 8 (block_at image b) 0)) words.idle

-- a block was entered behind so many of its words, none of which maps a block
pub record EntersBlock (image : List (List ℕ)) (b n : ℕ) (new : MapWords) : Type 0 where
  pub knows : KnowsIdle image new
  pub front : List ℕ
  pub idle : AreIdle n front
  pub words : words_from 8 (block_at image b) 0 ≡ front ++ block_words 8 new.here

-- so many words were passed, none of which maps a block
pub record Passes (image : List (List ℕ)) (n : ℕ) (old new : MapWords) : Type 0 where
  pub knows : KnowsIdle image new
  pub front : List ℕ
  pub idle : AreIdle n front
  pub words : map_words image old ≡ front ++ map_words image new

-- nothing is left
pub record Ends (image : List (List ℕ)) (old new : MapWords) : Type 0 where
  pub knows : KnowsIdle image new
  pub before : map_words image old ≡ []
  pub after : map_words image new ≡ []

abbrev pub GoesOn : List (List ℕ) → Option ℕ → MapWords → MapWords → Type 0
GoesOn image None old new = Ends image old new
GoesOn image (Some n) old new = Passes image n old new
