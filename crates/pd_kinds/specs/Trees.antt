-- Trusted base.
-- The entries of a tree, the words of an array, and the counts that a space map stores.
use Rattle.std.specs.Prelude.{ℕ, ◌/◌, ◌%◌, ◌^◌, ◌==◌, nat_lt, if◌then◌else◌, List, map, Option, Some}
use Rattle.std.specs.List.{flat_map, find, range_with_len}
use Rattle.std.specs.Option.{option_map, option_and_then}
use Rattle.pd_kinds.specs.Node.{Entry}
use Rattle.pd_kinds.specs.Array.{word_at, word_count}
use Rattle.pd_kinds.specs.Bitmap.{two_bits_of, index_block_at}
use Rattle.pd_kinds.specs.Graph.{Graph, block_at, pair, block_of, is_inner_pair, children, gathered}
use Rattle.pd_kinds.specs.Layout.{leaf_entries}

-- the entries of the leaves below a block in a role, whose leaf values have this size
unfoldable pub entries_below : Graph → List (List ℕ) → ℕ → ℕ → ℕ → List Entry
entries_below graph image size role b =
    gathered (is_inner_pair graph image) (children graph image) (λ p. leaf_entries size (block_at image (block_of p))) 63 (pair b role)

-- their keys
abbrev pub keys_of : List Entry → List ℕ
keys_of entries = map (λ (e : Entry). e.key) entries

-- the value at a key
unfoldable pub value_of_key : List Entry → ℕ → Option ℕ
value_of_key entries key = option_map (λ (e : Entry). e.value) (find (λ (e : Entry). e.key == key) entries)

-- the words of a block of an array
unfoldable pub block_words : ℕ → List ℕ → List ℕ
block_words size block = map (word_at size block) (range_with_len 0 (word_count size block))

-- the words of an array: those of the blocks that the entries of its tree name
unfoldable pub words_of : ℕ → List (List ℕ) → List Entry → List ℕ
words_of size image entries = flat_map (λ (e : Entry). block_words size (block_at image e.value)) entries

-- a stored count: the two bits where they are below 3, else the entry of the overflow tree
unfoldable pub count_of_bits : ℕ → List Entry → ℕ → Option ℕ
count_of_bits bits overflow b = if nat_lt bits 3 then Some bits else value_of_key overflow b

-- the stored count of a block, by the bitmap that covers it
unfoldable pub stored_in : List (List ℕ) → Option ℕ → List Entry → ℕ → Option ℕ
stored_in image bitmap overflow b =
    option_and_then (λ (place : ℕ). count_of_bits (two_bits_of (block_at image place) (b % 16320)) overflow b) bitmap

-- the stored count of a metadata block: an index block names the bitmaps
unfoldable pub stored_meta_in : List (List ℕ) → ℕ → List Entry → ℕ → Option ℕ
stored_meta_in image index overflow b =
    stored_in image (Some (index_block_at (block_at image index) (b / 16320))) overflow b

-- the stored count of a data block: the entries of a tree name the bitmaps, each by its first 8 bytes
unfoldable pub stored_data_in : List (List ℕ) → List Entry → List Entry → ℕ → Option ℕ
stored_data_in image index overflow b =
    stored_in image (option_map (λ (v : ℕ). v % 2 ^ 64) (value_of_key index (b / 16320))) overflow b
