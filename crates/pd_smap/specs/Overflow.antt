-- The entries of an overflow tree that are ahead, by where the tree is read.
-- What a space map's blocks say by their bytes alone, over any image.
use Rattle.std.specs.Prelude.{◌≡◌, ℕ, zero, suc, ◌-◌, ◌%◌, ◌/◌, ◌^◌, List, [], ◌∷◌, map, ◌+◌, Option, Some, None, length, Bool, false, nat_lt}
use Rattle.std.specs.List.{range_with_len}
use Rattle.pd_kinds.specs.Node.{Entry}
use Rattle.pd_kinds.specs.Bitmap.{bitmaps_for, index_block_at}
use Rattle.pd_kinds.specs.Graph.{block_at}
use Rattle.pd_kinds.specs.Trees.{keys_of}
use Rattle.pd_kinds.specs.Objects.{DeviceState}
use Rattle.pd_kinds.specs.Rule.{Reported}
use Rattle.pd_value.specs.declared.space_map.Count.{Count}
use Rattle.pd_value.specs.declared.space_map.IndexEntry.{IndexEntry}
use Rattle.pd_tree.specs.Below.{items_below}
use Rattle.pd_tree.specs.Search.{IsSearchable}
use Rattle.pd_tree.specs.Cursor.{cursor_items, cursor_nodes, cursor_number}
use Rattle.pd_smap.specs.declared.overflow.Overflow.{Overflow}
use Rattle.pd_smap.specs.Steps.{ComparisonState}

-- a number as a count, and as an entry of an index
abbrev pub count_from : ℕ → Count
count_from number = record { 0 = number }

abbrev pub index_from : ℕ → IndexEntry
index_from number = record {
  block = number % 2 ^ 64;
  free = number / 2 ^ 64 % 2 ^ 32;
  none_before = number / 2 ^ 96;
}

-- an entry as it is stored: a count, and the block of a bitmap
abbrev pub count_entry : ℕ × Count → Entry
count_entry item = record { key = item.0; value = item.1.0 }

abbrev pub bitmap_entry : ℕ × IndexEntry → Entry
bitmap_entry item = record { key = item.0; value = item.1.block }

-- the entries of the overflow tree with this root: blocks with their counts
unfoldable pub overflow_of : List (List ℕ) → ℕ → List Entry
overflow_of image root = map count_entry (items_below 4 count_from image 63 root)

-- the entries of the index tree with this root: numbers of bitmaps with their blocks
unfoldable pub index_of : List (List ℕ) → ℕ → List Entry
index_of image root = map bitmap_entry (items_below 16 index_from image 63 root)

-- the keys of the overflow tree ascend, and lie in the ranges of its nodes
abbrev pub IsOverflow : List (List ℕ) → ℕ → Type 0
IsOverflow image root = IsSearchable 4 count_from image 64 root

-- the index tree has an entry for each bitmap that so many blocks need, and no other one
abbrev pub IsIndex : List (List ℕ) → ℕ → ℕ → Type 0
IsIndex image root blocks = keys_of (index_of image root) ≡ range_with_len 0 (bitmaps_for blocks)

-- the place of a bitmap of the metadata's map, by the index block in a place
abbrev pub meta_place : ℕ → List (List ℕ) → ℕ → ℕ
meta_place index image i = index_block_at (block_at image index) i

-- the place of a bitmap of a data map, by the entries of the index tree in their order; without an entry there is none
abbrev pub place_in : List (ℕ × IndexEntry) → ℕ → ℕ
place_in [] i = 2 ^ 64 - 1
place_in (item ∷ items) zero = item.1.block % 2 ^ 64
place_in (item ∷ items) (suc i) = place_in items i

abbrev pub data_place : ℕ → List (List ℕ) → ℕ → ℕ
data_place root image i = place_in (items_below 16 index_from image 63 root) i

-- the first entry and those of the cursor behind it; after the last one there are none
abbrev pub entries_ahead : Option (ℕ × Count) → List (ℕ × Count) → List (ℕ × Count)
entries_ahead None rest = []
entries_ahead (Some entry) rest = entry ∷ rest

abbrev pub overflow_items : Overflow → List (List ℕ) → List (ℕ × Count)
overflow_items overflow image = entries_ahead overflow.entry (cursor_items 4 count_from image overflow.rest)

-- whether the first entry is that of a block before this one
abbrev pub is_entry_behind : ℕ → Option (ℕ × Count) → Bool
is_entry_behind b None = false
is_entry_behind b (Some entry) = nat_lt entry.0 b

abbrev pub is_behind : ℕ → Overflow → Bool
is_behind b overflow = is_entry_behind b overflow.entry

-- how many nodes of the tree are still to be read
abbrev pub overflow_reads : Overflow → List (List ℕ) → ℕ
overflow_reads overflow image = length (cursor_nodes 4 image overflow.rest)

-- a number that falls as entries are passed
abbrev pub passing_number : Option (ℕ × Count) → ℕ → ℕ
passing_number None n = 0
passing_number (Some entry) n = n + 1

abbrev pub overflow_number : Overflow → ℕ
overflow_number overflow = passing_number overflow.entry (cursor_number 4 overflow.rest)

-- where a comparison stands that has these
abbrev pub comparison_state : DeviceState → Overflow → Reported → ComparisonState
comparison_state device overflow report = record {
  device = device;
  report = report;
  items = overflow_items overflow;
  reads = overflow_reads overflow;
}
