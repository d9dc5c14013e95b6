-- The roots of fuller mapping arrays: the words of an array, a table of the blocks, and roots in their order.
use Rattle.std.specs.Prelude.{◌≡◌, ℕ, ◌+◌, ◌%◌, ◌^◌, ◌<◌, Bool, false, ◌==◌, ◌&&◌, ◌||◌, not, nat_lt, if◌then◌else◌, List, length, map, filter, take, insert, count_by, Option, Some, None, is_some, slice_index, slice_index_or}
use Rattle.std.specs.List.{list_any, list_all, prefix_len, range_with_len}
use Rattle.pd_kinds.specs.CacheFormat.{CacheFields}
use Rattle.pd_kinds.specs.Node.{child_at, entry_count, is_inner_node}
use Rattle.pd_laid.specs.CacheRoots.{FullerRoot, has_child, is_fuller, is_plain_word, known_words, mapping_word, rooted_at, roots_in_order}
use Rattle.pd_laid.specs.SavedCache.{saved_cache_from}
use Rattle.pd_salvage_cache.specs.declared.candidates.SavedWords.{SavedWords}
use Rattle.pd_salvage_cache.specs.declared.order.Choice.{Choice}
use Rattle.pd_salvage_cache.specs.declared.fuller.FullerRoot.{FullerRoot as TheRoot}

-- the words with one more, where it is saved
abbrev pub with_word : SavedWords → Option ℕ → SavedWords
with_word words None = words
with_word words (Some word) = record { number = words.number + 1; are_plain = words.are_plain && nat_lt (word % 2 ^ 16) 4 }

-- the first n words of an array
abbrev pub words_of : (ℕ → Option ℕ) → ℕ → SavedWords
words_of word n = record {
  number = count_by (λ i. is_some (word i)) (range_with_len 0 n);
  are_plain = list_all (λ i. is_plain_word (word i)) (range_with_len 0 n);
}

abbrev pub words_at : CacheFields → List (List ℕ) → ℕ → ℕ → SavedWords
words_at fields image root n = words_of (mapping_word (rooted_at fields root) image) n

-- how many words are saved of the array with a root that is fuller, and 0 of any other
abbrev pub fuller_words : CacheFields → List (List ℕ) → ℕ → ℕ
fuller_words fields image root = if is_fuller fields image root then known_words (rooted_at fields root) image else 0

-- whether a block is an inner node with this child
abbrev pub names_child : List ℕ → ℕ → Bool
names_child block child = is_inner_node block && list_any (λ i. child_at block i == child) (range_with_len 0 (entry_count 8 block))

-- whether another block that has words has this one among its children
abbrev pub is_named_by : List (List ℕ) → List ℕ → ℕ → ℕ → Bool
is_named_by image words child other = not (other == child) && (not (slice_index words other == 0) && has_child image other child)

-- the children of the first n blocks are marked
abbrev pub AreMarked : List (List ℕ) → List ℕ → ℕ → List Bool → Type 0
AreMarked image words n marks =
    (c : ℕ) → c < length marks → slice_index_or marks c false ≡ list_any (is_named_by image words c) (range_with_len 0 n)

-- a root in its place among others that are in order, of which the first 100 stay
abbrev pub comes_before : Choice → Choice → Bool
comes_before a b = nat_lt b.words a.words || ((a.words == b.words) && nat_lt b.root a.root)

abbrev pub place_among : Choice → List Choice → ℕ
place_among one others = prefix_len (λ (other : Choice). not (comes_before one other)) others

abbrev pub put_among : List Choice → Choice → List Choice
put_among choices one = take 100 (insert choices (place_among one choices) one)

-- a root with the entries that are kept from it
abbrev pub told_root : CacheFields → List (List ℕ) → Choice → FullerRoot
told_root fields image one = record {
  root = one.root;
  words = one.words;
  entries = length (saved_cache_from (rooted_at fields one.root) image).entries;
}

abbrev pub root_as : TheRoot → FullerRoot
root_as r = record { root = r.root; words = r.words; entries = r.entries }

-- a block that has words and isn't a child
abbrev pub is_own : List ℕ → List Bool → ℕ → Bool
is_own words children b = not ((slice_index words b == 0) || slice_index_or children b false)

abbrev pub choice_at : List ℕ → ℕ → Choice
choice_at words b = record { root = b; words = slice_index words b }

-- the first such ones of some blocks, in order
abbrev pub AreFirst : CacheFields → List (List ℕ) → List ℕ → List Bool → List ℕ → List Choice → Type 0
AreFirst fields image words children bs choices =
    map (told_root fields image) choices
    ≡ take 100 (roots_in_order (map (λ b. told_root fields image (choice_at words b)) (filter (is_own words children) bs)))
