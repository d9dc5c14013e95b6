-- Trusted base.
-- The mapping arrays of a damaged cache: how many words of the one that its superblock names are saved, and the roots of those of
-- which more are. A kernel copies on write, so the arrays of earlier commits stand whole beside the last one.
use Rattle.std.specs.Prelude.{ℕ, ◌+◌, ◌/◌, ◌%◌, ◌^◌, max, ◌==◌, ◌&&◌, ◌||◌, Bool, true, not, nat_lt, if◌then◌else◌, List, [], ◌∷◌, length, map, filter, fold, take, count_by, Option, Some, None, is_none, is_some}
use Rattle.std.specs.List.{list_any, list_all, range_with_len}
use Rattle.pd_kinds.specs.Graph.{block_at}
use Rattle.pd_kinds.specs.Node.{Entry, entry_count, child_at, is_inner_node}
use Rattle.pd_kinds.specs.CacheFormat.{CacheFields}
use Rattle.pd_laid.specs.Salvage.{salvaged_entries}
use Rattle.pd_laid.specs.SavedCache.{saved_word, saved_cache_from}

-- the mapping word of a cache block, where it is saved
abbrev pub mapping_word : CacheFields → List (List ℕ) → ℕ → Option ℕ
mapping_word fields image i = saved_word 8 fields.meta_map.blocks image fields.mapping_root i

-- the number of cache blocks whose mapping word is saved
unfoldable pub known_words : CacheFields → List (List ℕ) → ℕ
known_words fields image = count_by (λ i. is_some (mapping_word fields image i)) (range_with_len 0 fields.blocks)

-- the number of those whose mapping word is lost: some of them may have been dirty
unfoldable pub unknown_words : CacheFields → List (List ℕ) → ℕ
unknown_words fields image = count_by (λ i. is_none (mapping_word fields image i)) (range_with_len 0 fields.blocks)

-- the superblock with another root of the mapping array
abbrev pub rooted_at : CacheFields → ℕ → CacheFields
rooted_at fields root = record fields { mapping_root = root }

-- a mapping word has no flags besides valid and dirty, which are the two low bits of 16; a lost word has none
abbrev pub is_plain_word : Option ℕ → Bool
is_plain_word None = true
is_plain_word (Some word) = nat_lt (word % 2 ^ 16) 4

-- the least number above all keys of an array's tree
abbrev pub end_of_keys : List Entry → ℕ
end_of_keys entries = fold max 0 (map (λ (e : Entry). e.key + 1) entries)

-- Whether a block is the root of a mapping array of this cache that is fuller than its own: more words of it are saved, its tree ends
-- with the last block of such an array, and its words have the flags of mapping words alone. The arrays of dirty bits, of
-- discards and of hints look alike but for these
unfoldable pub is_fuller : CacheFields → List (List ℕ) → ℕ → Bool
is_fuller fields image root =
    nat_lt (known_words fields image) (known_words (rooted_at fields root) image)
    && ((end_of_keys (salvaged_entries 8 fields.meta_map.blocks image root) == (fields.blocks + 508) / 509)
    && list_all (λ i. is_plain_word (mapping_word (rooted_at fields root) image i)) (range_with_len 0 fields.blocks))

-- whether a block is an inner node that has another one among its children
abbrev pub has_child : List (List ℕ) → ℕ → ℕ → Bool
has_child image place child =
    let block = block_at image place in
    is_inner_node block && list_any (λ i. child_at block i == child) (range_with_len 0 (entry_count 8 block))

-- whether it is a root of its own: no other such block has it among its children
unfoldable pub is_fuller_root : CacheFields → List (List ℕ) → ℕ → Bool
is_fuller_root fields image root =
    is_fuller fields image root
    && not (list_any (λ other. not (other == root) && (is_fuller fields image other && has_child image other root)) (range_with_len 0 fields.meta_map.blocks))

-- a root, how many mapping words of its array are saved, and how many entries a repair would keep from it
pub record FullerRoot : Type 0 where
  pub root : ℕ
  pub words : ℕ
  pub entries : ℕ

unfoldable pub fuller_root : CacheFields → List (List ℕ) → ℕ → FullerRoot
fuller_root fields image root =
    record { root = root; words = known_words (rooted_at fields root) image; entries = length (saved_cache_from (rooted_at fields root) image).entries }

-- of two roots that with more saved words comes first; among equal ones the higher place, since a kernel hands out metadata blocks
-- ascending
abbrev pub comes_first : FullerRoot → FullerRoot → Bool
comes_first a b = nat_lt b.words a.words || ((a.words == b.words) && nat_lt b.root a.root)

-- a root in its place among others that are in order
abbrev pub placed_root : FullerRoot → List FullerRoot → List FullerRoot
placed_root root [] = root ∷ []
placed_root root (first ∷ others) = if comes_first root first then root ∷ first ∷ others else first ∷ placed_root root others

abbrev pub roots_in_order : List FullerRoot → List FullerRoot
roots_in_order [] = []
roots_in_order (root ∷ others) = placed_root root (roots_in_order others)

-- the roots to choose from: the first 100 in order
unfoldable pub fuller_roots : CacheFields → List (List ℕ) → List FullerRoot
fuller_roots fields image =
    take 100 (roots_in_order (map (fuller_root fields image) (filter (is_fuller_root fields image) (range_with_len 0 fields.meta_map.blocks))))
