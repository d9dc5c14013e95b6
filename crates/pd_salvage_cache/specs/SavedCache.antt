-- A cache that is held in memory.
-- The entries of a cache as rows, by ascending cache block.
-- Entries of a cache that ascend, and those that are kept of them: of the entries with one origin the first.
-- The cache that rows mean.
-- What is said of a whole cache.
use Rattle.std.specs.Prelude.{ℕ, ◌+◌, ◌^◌, ◌<◌, ◌≤◌, List, [], ◌∷◌, map, Option, ◌≡◌, not, filter, ◌%◌, ◌==◌, length}
use Rattle.std.specs.Option.{option_map}
use Rattle.std.specs.List.{All, AllByRecursion}
use Rattle.pd_kinds.specs.Meaning.{CacheEntry, CacheMeaning}
use Rattle.pd_kinds.specs.CacheFormat.{CacheFields}
use Rattle.pd_grammar.specs.Lawful.{IsLawfulCache}
use Rattle.pd_laid.specs.SavedCache.{is_repeated}
use Rattle.pd_salvage_cache.specs.declared.saved.Row.{Row}
use Rattle.pd_salvage_cache.specs.declared.saved.CacheHead.{CacheHead}

-- the entry of a row
abbrev pub entry : Row → CacheEntry
entry r = record { block = r.block; origin = r.origin; dirty = r.dirty; hint = r.hint }

abbrev pub entry_of_row : Option Row → Option CacheEntry
entry_of_row row = option_map entry row

-- rows of cache blocks that ascend from this one on
abbrev pub AreRows : ℕ → List Row → Type 0
AreRows least [] = Unit {0}
AreRows least (r ∷ rows) = (least ≤ r.block) × ((r.origin < 2 ^ 48) × AreRows (r.block + 1) rows)

-- their origins
abbrev pub origins_of : List Row → List ℕ
origins_of rows = map (λ (row : Row). row.origin) rows

-- the entry of a block, with an origin of six bytes and a hint of four, which is 0 where there are none
pub record IsGood (hint_size block : ℕ) (e : CacheEntry) : Type 0 where
  pub here : e.block ≡ block
  pub origin_fits : e.origin < 2 ^ 48
  pub hint_fits : e.hint < 2 ^ 32
  pub no_hint : hint_size ≡ 0 → e.hint ≡ 0

-- entries of so many blocks, which ascend from one on
abbrev pub DoAscend : ℕ → ℕ → ℕ → List CacheEntry → Type 0
DoAscend blocks hint_size least [] = Unit {0}
DoAscend blocks hint_size least (e ∷ es) =
    (least ≤ e.block) × ((e.block < blocks) × (IsGood hint_size e.block e × DoAscend blocks hint_size (e.block + 1) es))

-- the numbers of a row fit their places
pub record FitsRow (row : Row) : Type 0 where
  pub origin : row.origin < 2 ^ 48
  pub hint : row.hint < 2 ^ 32

-- the rows but those that have the origin of one of a lesser block
abbrev pub kept_rows : List Row → List Row
kept_rows rows = filter (λ (row : Row). not (is_repeated (map entry rows) (entry row))) rows

-- the cache of a head, with an entry for each row
abbrev pub cache_meaning : CacheHead → List Row → CacheMeaning
cache_meaning c rows = record {
  uuid = c.uuid;
  block_size = c.block_size;
  blocks = c.blocks;
  clean = c.clean;
  policy = c.policy;
  versions = c.versions;
  hint_size = c.hint_size;
  entries = map entry rows;
}

-- what is held: the head, a row for each entry, and the number of cache blocks whose mapping word is lost
pub record HeldCache : Type 0 where
  pub head : CacheHead
  pub rows : List Row
  pub unknown : ℕ

-- the cache that is held
abbrev pub held_cache : HeldCache → CacheMeaning
held_cache saved = cache_meaning saved.head saved.rows

-- it is lawful, so its rows ascend
abbrev pub IsSavedCache : HeldCache → Type 0
IsSavedCache saved = IsLawfulCache (held_cache saved)

-- by the superblock
abbrev pub head_of : CacheFields → CacheHead
head_of fields = record {
  uuid = fields.uuid;
  block_size = fields.block_size;
  blocks = fields.blocks;
  clean = fields.flags % 2 == 1;
  policy = fields.policy;
  versions = fields.versions;
  hint_size = fields.hint_size;
}

-- its numbers fit their places
pub record FitsHead (head : CacheHead) : Type 0 where
  pub uuid_len : length head.uuid ≡ 16
  pub uuid_bytes : All (λ b. b < 256) head.uuid
  pub block_size_fits : head.block_size < 2 ^ 32
  pub blocks_fit : head.blocks < 2 ^ 32
  pub policy_len : length head.policy ≡ 16
  pub policy_bytes : All (λ b. b < 256) head.policy
  pub three_versions : length head.versions ≡ 3
  pub versions_fit : AllByRecursion (λ v. v < 2 ^ 32) head.versions
