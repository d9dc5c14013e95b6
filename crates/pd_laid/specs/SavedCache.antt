-- Trusted base.
-- What can be saved of a damaged cache: the words of its arrays that a path of sound nodes leads to from the roots of
-- its superblock. What may be dirty is dirty.
use Rattle.std.specs.Prelude.{ℕ, ◌/◌, ◌%◌, Bool, true, ◌==◌, ◌&&◌, ◌||◌, not, nat_lt, if◌then◌else◌, List, filter, Option, Some, None}
use Rattle.std.specs.List.{list_any, filter_map, range_with_len}
use Rattle.std.specs.Option.{option_and_then, unwrap_or}
use Rattle.std.specs.Int.{bit_at}
use Rattle.pd_kinds.specs.Rule.{all_rules}
use Rattle.pd_kinds.specs.Graph.{is_outside, block_at}
use Rattle.pd_kinds.specs.Node.{Entry}
use Rattle.pd_kinds.specs.Array.{array_bad, max_words, word_at, word_count}
use Rattle.pd_kinds.specs.Trees.{value_of_key}
use Rattle.pd_kinds.specs.CacheFormat.{CacheFields, cache_fields, has_dirty_bits}
use Rattle.pd_kinds.specs.Whole.{is_valid_word, is_dirty_word, origin_of_word}
use Rattle.pd_kinds.specs.Meaning.{CacheEntry, CacheMeaning}
use Rattle.pd_laid.specs.Salvage.{salvaged_entries}

-- whether a block breaks a rule of an array block of words of this size
unfoldable pub is_array_damaged : ℕ → ℕ → List ℕ → Bool
is_array_damaged size place block = list_any (array_bad size place block) all_rules

-- word i of the array block at a place: none where that is outside the metadata or damaged, or has fewer words
unfoldable pub saved_word_at : ℕ → ℕ → List (List ℕ) → ℕ → ℕ → Option ℕ
saved_word_at size nr image place i =
    let block = block_at image place in
    if is_outside nr place || is_array_damaged size place block then None
    else if nat_lt i (word_count size block) then Some (word_at size block i)
    else None

-- word i of an array of which these entries of its tree are saved: each names the block of as many words as fit
unfoldable pub saved_word_of : ℕ → ℕ → List (List ℕ) → List Entry → ℕ → Option ℕ
saved_word_of size nr image entries i =
    option_and_then (λ (place : ℕ). saved_word_at size nr image place (i % max_words size)) (value_of_key entries (i / max_words size))

-- word i of the array with this root
abbrev pub saved_word : ℕ → ℕ → List (List ℕ) → ℕ → ℕ → Option ℕ
saved_word size nr image root i = saved_word_of size nr image (salvaged_entries 8 nr image root) i

-- the hint of a cache block, which is 0 where there is none or it is lost
abbrev pub saved_hint : CacheFields → List (List ℕ) → ℕ → ℕ
saved_hint fields image i =
    if (fields.hint_size == 4) && not (fields.hint_root == 0)
    then unwrap_or (saved_word 4 fields.meta_map.blocks image fields.hint_root i) 0
    else 0

-- whether the word of 64 dirty bits says that bit i is set: yes where the word is lost
abbrev pub is_bit_saved : Option ℕ → ℕ → Bool
is_bit_saved None i = true
is_bit_saved (Some word) i = bit_at word i == 1

-- whether a cache block is taken for dirty: by its mapping word in version 1, by its bit in version 2
abbrev pub is_saved_dirty : CacheFields → List (List ℕ) → ℕ → ℕ → Bool
is_saved_dirty fields image word i =
    if has_dirty_bits fields.version
    then is_bit_saved (saved_word 8 fields.meta_map.blocks image fields.dirty_root (i / 64)) (i % 64)
    else is_dirty_word word

-- the entry of a cache block, where its mapping word is saved and valid
abbrev pub saved_entry_of : CacheFields → List (List ℕ) → ℕ → Option ℕ → Option CacheEntry
saved_entry_of fields image i None = None
saved_entry_of fields image i (Some word) =
    if is_valid_word word
    then Some (record {
      block = i;
      origin = origin_of_word word;
      dirty = is_saved_dirty fields image word i;
      hint = saved_hint fields image i;
    })
    else None

abbrev pub saved_entry : CacheFields → List (List ℕ) → ℕ → Option CacheEntry
saved_entry fields image i = saved_entry_of fields image i (saved_word 8 fields.meta_map.blocks image fields.mapping_root i)

-- the entries of all blocks of a cache that are saved, ascending
unfoldable pub found_entries : CacheFields → List (List ℕ) → List CacheEntry
found_entries fields image = filter_map (saved_entry fields image) (range_with_len 0 fields.blocks)

-- whether an entry of a lesser cache block has the same origin
abbrev pub is_repeated : List CacheEntry → CacheEntry → Bool
is_repeated entries e = list_any (λ (other : CacheEntry). nat_lt other.block e.block && (other.origin == e.origin)) entries

-- what is saved of a cache with this superblock: its words, and of the entries with one origin the first
unfoldable pub saved_cache_from : CacheFields → List (List ℕ) → CacheMeaning
saved_cache_from fields image =
    let entries = found_entries fields image in
    record {
      uuid = fields.uuid;
      block_size = fields.block_size;
      blocks = fields.blocks;
      clean = fields.flags % 2 == 1;
      policy = fields.policy;
      versions = fields.versions;
      hint_size = fields.hint_size;
      entries = filter (λ (e : CacheEntry). not (is_repeated entries e)) entries;
    }

-- what is saved of an image
abbrev pub saved_cache : List (List ℕ) → CacheMeaning
saved_cache image = saved_cache_from (cache_fields (block_at image 0)) image
