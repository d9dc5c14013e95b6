-- Trusted base.
-- The terms of a writeback: what is dirty in a cache is copied to its origin, and the cache is marked clean.
-- What a cached device reads, what a writeback copies to its origin, and what then marks the cache clean
-- (`process_bio` and `load_mapping` of "drivers/md/dm-cache-target.c").
use Rattle.std.specs.Prelude.{ℕ, ◌+◌, ◌-◌, ◌*◌, ◌/◌, ◌%◌, max, Bool, ◌==◌, ◌&&◌, ◌||◌, not, nat_le, nat_lt, if◌then◌else◌, List, [], ◌∷◌, length, map, filter, fold, Option, Some, None, ◌≡◌, ◌≢◌, ◌⊎◌, ◌++◌, IfSome, codes, decimal}
use Rattle.std.specs.List.{list_any, list_all, range_with_len, slice_get}
use Rattle.std.specs.Option.{option_and_then, unwrap_or}
use Rattle.pd_kinds.specs.Array.{array_salt, word_at, word_count}
use Rattle.pd_kinds.specs.CacheFormat.{cache_fields, cache_graph, has_dirty_bits}
use Rattle.pd_kinds.specs.Field.{sealed}
use Rattle.pd_kinds.specs.Graph.{block_at, block_of, role_of, nodes}
use Rattle.pd_kinds.specs.Meaning.{CacheEntry, CacheMeaning, cache_meaning}
use Rattle.pd_kinds.specs.Node.{puts}
use Rattle.pd_kinds.specs.Super.{is_valid_super}
use Rattle.pd_kinds.specs.Whole.{is_valid_word, is_dirty_word}
use Rattle.pd_kinds.specs.declared.kind.Kind.TheVariants.{Cache}
use Rattle.pd_kinds.specs.declared.kind.Stage.TheVariants.{Whole}
use Rattle.pd_kinds.specs.Crash.{IsUntouched, LeavesOnly, HoldsSynced, IsOldNoneOrMade, StillTells}
use Rattle.pd_kinds.specs.Objects.{DeviceState}
use Rattle.pd_kinds.specs.Rule.{Reported, report_of}
use Rattle.pd_kinds.specs.Stages.{faults, CanWantMemory}
use Rattle.pd_grammar.specs.Lines.{reported_lines, no_room_line}
use Rattle.pd_answers.specs.Terms.{Answer, Objects, reading, writing, any_reads, Terms, unnamed}
use Rattle.pd_answers.specs.Outputs.{IsWorkDone}

-- a cached block: its number in the cache, and that of the origin's block that it stands for
pub record CachedBlock : Type 0 where
  pub cache_block : ℕ
  pub origin_block : ℕ

abbrev pub cached_block : CacheEntry → CachedBlock
cached_block e = record { cache_block = e.block; origin_block = e.origin }

-- all cached blocks of a cache
abbrev pub cached_blocks : CacheMeaning → List CachedBlock
cached_blocks m = map cached_block m.entries

-- An entry is hot: its origin may be older than it. It is dirty, or the cache wasn't shut down, so that what the
-- metadata says of dirty blocks isn't to be trusted
abbrev pub is_hot : CacheMeaning → CacheEntry → Bool
is_hot m e = e.dirty || not m.clean

-- the cached blocks that a writeback copies
unfoldable pub hot_blocks : CacheMeaning → List CachedBlock
hot_blocks m = map cached_block (filter (is_hot m) m.entries)

-- how many blocks of 4096 bytes a block of the cache has, by its size in sectors of 512
abbrev pub blocks_each : ℕ → ℕ
blocks_each block_size = block_size / 8

-- a block size that is no number of whole blocks of 4096 bytes
abbrev pub is_block_size_bad : ℕ → Bool
is_block_size_bad block_size = (block_size == 0) || not (block_size % 8 == 0)

-- whether block b of the origin belongs to a cached block of k blocks
abbrev pub stands_for : ℕ → CachedBlock → ℕ → Bool
stands_for k c b = nat_le (c.origin_block * k) b && nat_lt b ((c.origin_block + 1) * k)

-- the block of the fast device that stands for block b of the origin, if one of the cached blocks, of k blocks each, does
unfoldable pub fast_place : ℕ → List CachedBlock → ℕ → Option ℕ
fast_place k [] b = None
fast_place k (c ∷ cached) b =
    if stands_for k c b then Some (c.cache_block * k + (b - c.origin_block * k)) else fast_place k cached b

-- block b of the origin with the cached blocks over it, as far as the fast device has them
abbrev pub overlaid_block : ℕ → List CachedBlock → List (List ℕ) → List (List ℕ) → ℕ → List ℕ
overlaid_block k cached origin fast b = unwrap_or (option_and_then (slice_get fast) (fast_place k cached b)) (block_at origin b)

-- the origin with cached blocks over it
unfoldable pub overlaid : ℕ → List CachedBlock → List (List ℕ) → List (List ℕ) → List (List ℕ)
overlaid k cached origin fast = map (overlaid_block k cached origin fast) (range_with_len 0 (length origin))

-- the origin with each hot block of a cache copied to its place, by the cache's metadata
unfoldable pub copied : List (List ℕ) → List (List ℕ) → List (List ℕ) → List (List ℕ)
copied image origin fast =
    let m = cache_meaning image in
    overlaid (blocks_each m.block_size) (hot_blocks m) origin fast

-- what a cached device reads: the origin with all cached blocks over it, where there is a superblock
unfoldable pub view : List (List ℕ) → List (List ℕ) → List (List ℕ) → List (List ℕ)
view image origin fast =
    let m = cache_meaning image in
    if is_valid_super (block_at image 0)
    then overlaid (blocks_each m.block_size) (cached_blocks m) origin fast
    else origin

-- how many blocks the fast device must have so that hot blocks can be read, and the origin so that they have a place;
-- the last one may have a front of a block alone
abbrev pub fast_need : ℕ → List CachedBlock → ℕ
fast_need k hot = fold max 0 (map (λ (c : CachedBlock). (c.cache_block + 1) * k) hot)

abbrev pub origin_need : ℕ → List CachedBlock → ℕ
origin_need k hot = fold max 0 (map (λ (c : CachedBlock). c.origin_block * k + 1) hot)

-- the role of the blocks that say what is dirty: those of the mapping array in version 1, of the dirty bitset in version 2
abbrev pub dirty_role : ℕ → ℕ
dirty_role version = if has_dirty_bits version then 11 else 2

-- these blocks, ascending
unfoldable pub dirty_places : List (List ℕ) → List ℕ
dirty_places image =
    let graph = cache_graph (block_at image 0) in
    map block_of (filter (λ p. role_of p == dirty_role (cache_fields (block_at image 0)).version) (nodes graph image))

-- their words once nothing is dirty: in version 1 a valid word loses its flag, in version 2 no bit is set
abbrev pub settled_word : ℕ → ℕ → ℕ
settled_word version word =
    if has_dirty_bits version then 0
    else if is_valid_word word && is_dirty_word word then word - 2
    else word

-- the words of an array block of eight bytes each
abbrev pub long_words : List ℕ → List ℕ
long_words block = map (word_at 8 block) (range_with_len 0 (word_count 8 block))

-- the block with these words, sealed again; where none of them changes, the block itself
unfoldable pub settled_block : ℕ → List ℕ → List ℕ
settled_block version block =
    if list_all (λ word. settled_word version word == word) (long_words block) then block
    else sealed (puts block 24 8 (map (settled_word version) (long_words block))) array_salt

-- the image of a cache in which nothing is dirty; where nothing is hot, the image itself
unfoldable pub settled : List (List ℕ) → List (List ℕ)
settled image =
    if length (hot_blocks (cache_meaning image)) == 0 then image
    else map (λ b. if list_any (λ place. place == b) (dirty_places image)
    then settled_block (cache_fields (block_at image 0)).version (block_at image b)
    else block_at image b) (range_with_len 0 (length image))

-- the line after the work: how many blocks of the cache were copied
abbrev pub copied_line : ℕ → List ℕ
copied_line n = codes "copied " ++ (decimal n ++ (10 ∷ []))

-- the line of a cache whose blocks aren't whole blocks of 4096 bytes
abbrev pub block_size_line : List ℕ
block_size_line = codes "pdata_tools: block size" ++ (10 ∷ [])

-- what a writeback finds: the report of the check before it, the block size in sectors and what is hot, and how many
-- blocks the fast device and the origin have
pub record WritebackFound : Type 0 where
  pub report : Reported
  pub block_size : ℕ
  pub hot : List CachedBlock
  pub fast_blocks : ℕ
  pub origin_blocks : ℕ

-- the number of blocks of a device: of the image that it tells, and its own where it was attached
pub record HasBlocks (before after : DeviceState) (blocks : ℕ) : Type 0 where
  pub told : IfSome before.held (λ image. blocks ≡ length image)
  pub attached : (after.access ≡ 1) ⊎ (after.access ≡ 2) → blocks ≡ after.blocks

-- what it finds is right
pub record FindsWriteback (before after : Objects) (found : WritebackFound) : Type 0 where
  pub fast : HasBlocks before.third after.third found.fast_blocks
  pub origin : HasBlocks before.output after.output found.origin_blocks
  pub told : IfSome before.input.held (λ image. (found.report ≡ report_of (faults Cache Whole image))
      × (found.block_size ≡ (cache_meaning image).block_size) × (found.hot ≡ hot_blocks (cache_meaning image)))

-- a status without a line on `out`
abbrev pub noted : ℕ → List ℕ → Answer
noted status line = record { status = status; out = []; notes = line }

-- the answer where more blocks are needed than there are; else the next one
abbrev pub or_no_room : ℕ → ℕ → Answer → Answer
or_no_room need blocks answer = if nat_lt blocks need then noted 4 (no_room_line need blocks) else answer

-- A writeback puts a line with the number of copied blocks after its work; else, to `notes`, the report of the metadata,
-- that the block size is none, or what the fast device, and then the origin, would need
abbrev pub writeback_answer : WritebackFound → Answer
writeback_answer found =
    let k = blocks_each found.block_size in
    if not (found.report.total == 0) then noted 1 (reported_lines found.report)
    else if is_block_size_bad found.block_size then noted 1 block_size_line
    else or_no_room (fast_need k found.hot) found.fast_blocks
    (or_no_room (origin_need k found.hot) found.origin_blocks
    (record { status = 0; out = copied_line (length found.hot); notes = [] }))

-- the image is that of the origin but for the blocks that hot ones, of k blocks each, stand for
pub record KeepsOthers (k : ℕ) (hot : List CachedBlock) (origin image : List (List ℕ)) : Type 0 where
  pub number : length image ≡ length origin
  pub others : (b : ℕ) → fast_place k hot b ≡ None → slice_get image b ≡ slice_get origin b

-- all of the three devices told what they hold: the metadata, the origin, the fast device
abbrev pub AllTold : Objects → (List (List ℕ) → List (List ℕ) → List (List ℕ) → Type 0) → Type 0
AllTold before P = IfSome before.input.held (λ image. IfSome before.output.held (λ origin. IfSome before.third.held (P image origin)))

-- what a writeback leaves of the metadata and of the origin; the fast device isn't written
pub record LeavesWrittenBack (found : WritebackFound) (before after : Objects) (status : ℕ) : Type 0 where
  -- under every status, each device tells what it holds, where it told that before
  pub metadata_told : StillTells before.input after.input
  pub origin_told : StillTells before.output after.output
  -- a crash at any moment of the call leaves the origin as it was but for what hot blocks stand for
  pub origin : IfSome before.output.held (λ origin. LeavesOnly
      (λ image firsts. KeepsOthers (blocks_each found.block_size) found.hot origin image) before.output after.output)
  -- and it leaves the metadata as it was, with nothing dirty, or without a valid superblock
  pub metadata : IfSome before.input.held (λ image. LeavesOnly (IsOldNoneOrMade image (λ made. made ≡ settled image)) before.input after.input)
  -- the metadata isn't written before a crash leaves all of the hot blocks on the origin
  pub order : AllTold before (λ image origin fast. IsUntouched before.input after.input ⊎ HoldsSynced (copied image origin fast) after.output)
  -- once the work is done a crash from then on leaves the origin with the hot blocks, and the metadata with nothing dirty, also
  -- where the line couldn't be put after that
  pub copied_all : IsWorkDone before after status → AllTold before (λ image origin fast. HoldsSynced (copied image origin fast) after.output)
  pub marked : IsWorkDone before after status → IfSome before.input.held (λ image. HoldsSynced (settled image) after.input)
  -- whatever else failed, an origin that didn't fail, nor the fast device, is left alone, or has all of the hot blocks
  pub origin_kept : after.output.faults ≡ before.output.faults → after.third.faults ≡ before.third.faults
      → AllTold before (λ image origin fast. IsUntouched before.output after.output ⊎ HoldsSynced (copied image origin fast) after.output)
  -- and metadata that didn't fail is left alone, or has nothing dirty
  pub metadata_kept : after.input.faults ≡ before.input.faults
      → IfSome before.input.held (λ image. IsUntouched before.input after.input ⊎ HoldsSynced (settled image) after.input)
  -- where nothing is to change in the metadata, it is left alone
  pub unchanged : IfSome before.input.held (λ image. settled image ≡ image → IsUntouched before.input after.input)
  -- what is refused, and want of memory, leave both alone; so does a cache in which nothing is hot
  pub refused : (writeback_answer found).status ≢ 0 → IsUntouched before.input after.input × IsUntouched before.output after.output
  pub wanting : status ≡ 7 → IsUntouched before.input after.input × IsUntouched before.output after.output
  pub cold : found.hot ≡ [] → IsUntouched before.input after.input × IsUntouched before.output after.output

-- a writeback reads and writes the metadata, writes the origin, and reads the fast device
abbrev pub writeback : List ℕ → List ℕ → List ℕ → Terms
writeback metadata fast origin = record {
  uses = record unnamed { out = reading []; input = writing metadata; output = writing origin; third = reading fast };
  Finding = WritebackFound;
  finds = FindsWriteback;
  answer = writeback_answer;
  statuses = 0 ∷ 1 ∷ 4 ∷ 5 ∷ 7 ∷ [];
  memory = λ before. CanWantMemory Cache Whole before.input.held;
  silent = 1 ∷ 4 ∷ 5 ∷ 7 ∷ [];
  spared = λ found. (writeback_answer found).status ≢ 0;
  reads = any_reads;
  leaves = LeavesWrittenBack;
}
