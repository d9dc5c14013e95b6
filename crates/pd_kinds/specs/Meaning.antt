-- Trusted base.
-- What an image says, where it has no fault up to the stage Whole.
use Rattle.std.specs.Prelude.{ℕ, ◌/◌, ◌%◌, ◌^◌, max, Bool, ◌==◌, ◌&&◌, not, nat_lt, if◌then◌else◌, List, [], map, filter, fold, length, slice_index}
use Rattle.std.specs.List.{range_with_len}
use Rattle.std.specs.Option.{unwrap_or}
use Rattle.std.specs.Int.{bit_at}
use Rattle.pd_kinds.specs.Node.{Entry}
use Rattle.pd_kinds.specs.Graph.{Graph, block_at}
use Rattle.pd_kinds.specs.ThinFormat.{thin_fields, thin_graph, mapped_block, mapped_time}
use Rattle.pd_kinds.specs.CacheFormat.{cache_fields, cache_graph, has_dirty_bits}
use Rattle.pd_kinds.specs.EraFormat.{era_fields, era_graph, writeset_bits, writeset_root}
use Rattle.pd_kinds.specs.Trees.{entries_below, value_of_key}
use Rattle.pd_kinds.specs.Whole.{array_words, mapping_array, dirty_array, top_entries, mapping_entries, details_entries, mapped_number, is_valid_word, is_dirty_word, origin_of_word, writeset_array}
use Rattle.pd_kinds.specs.CacheRoles as cache_role
use Rattle.pd_kinds.specs.EraRoles as era_role

-- one mapping of a thin device
pub record Mapping : Type 0 where
  pub virtual_block : ℕ
  pub data_block : ℕ
  pub time : ℕ

-- a thin device, with its details and its mappings by ascending virtual block
pub record ThinDevice : Type 0 where
  pub id : ℕ
  pub mapped : ℕ
  pub transaction : ℕ
  pub created : ℕ
  pub snapped : ℕ
  pub mappings : List Mapping

-- a thin pool, with its devices by ascending id
pub record ThinPool : Type 0 where
  pub uuid : List ℕ
  pub time : ℕ
  pub transaction : ℕ
  pub block_size : ℕ
  pub data_blocks : ℕ
  pub devices : List ThinDevice

-- the device of an entry of the mapping tree, with the details of the same id
unfoldable pub thin_device : Graph → List (List ℕ) → List Entry → Entry → ThinDevice
thin_device graph image details top =
    let value = unwrap_or (value_of_key details top.key) 0 in
    record {
      id = top.key;
      mapped = mapped_number value;
      transaction = value / 2 ^ 64 % 2 ^ 64;
      created = value / 2 ^ 128 % 2 ^ 32;
      snapped = value / 2 ^ 160;
      mappings = map (λ (e : Entry). record { virtual_block = e.key; data_block = mapped_block e.value; time = mapped_time e.value })
          (mapping_entries graph image top.value);
    }

-- the meaning of a thin image
unfoldable pub thin_meaning : List (List ℕ) → ThinPool
thin_meaning image =
    let fields = thin_fields (block_at image 0) in
    let graph = thin_graph (block_at image 0) in
    record {
      uuid = fields.uuid;
      time = fields.time;
      transaction = fields.transaction;
      block_size = fields.block_size;
      data_blocks = fields.data_map.blocks;
      devices = map (thin_device graph image (details_entries graph image fields.details_root))
          (top_entries graph image fields.mapping_root);
    }

-- a cached block: the block of the cache, its origin, whether it is dirty, and its hint
pub record CacheEntry : Type 0 where
  pub block : ℕ
  pub origin : ℕ
  pub dirty : Bool
  pub hint : ℕ

-- a cache, with its valid entries by ascending cache block
pub record CacheMeaning : Type 0 where
  pub uuid : List ℕ
  pub block_size : ℕ
  pub blocks : ℕ
  pub clean : Bool
  pub policy : List ℕ
  pub versions : List ℕ
  pub hint_size : ℕ
  pub entries : List CacheEntry

-- the hints: the hint array's words where the hint size is 4 and there is one
unfoldable pub cache_hints : Graph → List (List ℕ) → List ℕ
cache_hints graph image =
    let fields = cache_fields (block_at image 0) in
    if (fields.hint_size == 4) && not (fields.hint_root == 0)
    then array_words graph image (record { role = cache_role.hint_node; root = fields.hint_root; size = 4; lengths = [] })
    else []

-- the words of the dirty bits, where there are any
unfoldable pub cache_dirty_bits : Graph → List (List ℕ) → List ℕ
cache_dirty_bits graph image =
    if has_dirty_bits (cache_fields (block_at image 0)).version then array_words graph image (dirty_array image) else []

-- whether bit i is set, of words of 64 bits
abbrev pub is_bit_set : List ℕ → ℕ → Bool
is_bit_set words i = bit_at (slice_index words (i / 64)) (i % 64) == 1

-- whether a cache block is dirty: its bit says so in version 2, its mapping word in version 1
abbrev pub is_dirty_block : ℕ → List ℕ → List ℕ → ℕ → Bool
is_dirty_block version words bits i =
    if has_dirty_bits version then is_bit_set bits i else is_dirty_word (slice_index words i)

-- the entry of a cache block; a hint past the end of the hint array is 0
abbrev pub cache_entry : ℕ → List ℕ → List ℕ → List ℕ → ℕ → CacheEntry
cache_entry version words hints bits i = record {
  block = i;
  origin = origin_of_word (slice_index words i);
  dirty = is_dirty_block version words bits i;
  hint = slice_index hints i;
}

-- the meaning of a cache's image
unfoldable pub cache_meaning : List (List ℕ) → CacheMeaning
cache_meaning image =
    let fields = cache_fields (block_at image 0) in
    let graph = cache_graph (block_at image 0) in
    let words = array_words graph image (mapping_array image) in
    record {
      uuid = fields.uuid;
      block_size = fields.block_size;
      blocks = fields.blocks;
      clean = fields.flags % 2 == 1;
      policy = fields.policy;
      versions = fields.versions;
      hint_size = fields.hint_size;
      entries = map (cache_entry fields.version words (cache_hints graph image) (cache_dirty_bits graph image))
          (filter (λ i. is_valid_word (slice_index words i)) (range_with_len 0 (length words)));
    }

-- an era target, with the era of each block
pub record EraMeaning : Type 0 where
  pub uuid : List ℕ
  pub block_size : ℕ
  pub blocks : ℕ
  pub era : ℕ
  pub eras : List ℕ

-- whether a writeset holds a block: a bit counts only below its number of bits
unfoldable pub is_held : Graph → List (List ℕ) → ℕ → ℕ → ℕ → Bool
is_held graph image bits root b =
    nat_lt b bits && is_bit_set (array_words graph image (writeset_array bits root)) b

-- the era that an archived writeset gives a block, and the one that the current writeset does
abbrev pub archived_era : Graph → List (List ℕ) → ℕ → Entry → ℕ
archived_era graph image b e = if is_held graph image (writeset_bits e.value) (writeset_root e.value) b then e.key else 0

unfoldable pub current_era : Graph → List (List ℕ) → ℕ → ℕ
current_era graph image b =
    let fields = era_fields (block_at image 0) in
    if not (fields.current_root == 0) && is_held graph image fields.current_bits fields.current_root b then fields.era else 0

-- the era of a block: the greatest of its array word, of the archived writesets that hold it, and of the
-- current one. A snapshot's trees don't count
unfoldable pub era_of : Graph → List (List ℕ) → ℕ → ℕ
era_of graph image b =
    let fields = era_fields (block_at image 0) in
    let word = slice_index (array_words graph image (record { role = era_role.era_node; root = fields.array_root; size = 4; lengths = [] })) b in
    let archived = map (archived_era graph image b) (entries_below graph image 12 era_role.writesets fields.writesets_root) in
    max (fold max word archived) (current_era graph image b)

-- the meaning of an era target's image
unfoldable pub era_meaning : List (List ℕ) → EraMeaning
era_meaning image =
    let fields = era_fields (block_at image 0) in
    let graph = era_graph (block_at image 0) in
    record {
      uuid = fields.uuid;
      block_size = fields.block_size;
      blocks = fields.blocks;
      era = fields.era;
      eras = map (era_of graph image) (range_with_len 0 fields.blocks);
    }
