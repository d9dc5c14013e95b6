-- What a line of a cache's text means.
-- The first and the last line of a cache's text.
-- The kinds of lines of a cache's text.
-- What the numbers of a line of a cache's text are, after given lines, the newest first.
-- The printed lines of a cache's entries.
-- What the lines so far of a cache's text say of the next one.
-- Whether a line of a cache's text has the origin of an earlier one.
use Rattle.std.specs.Prelude.{Option, Some, None, slice_index, is_none, ◌⊎◌, ◌^◌, ◌<◌, ◌≤◌, length, All, [], ◌∷◌}
use Rattle.std.proofs.Common.{◌≡◌, ℕ, false, List, refl, codes}
use Rattle.std.specs.List.{list_all, flat_map}
use Rattle.pd_kinds.specs.Meaning.{CacheEntry}
use Rattle.pd_grammar.specs.CacheText.{Line, cache_line, map_line, end_line, flag_number, first_line, cache_single, cache_kind, map_kind, end_kind, Head, Row, blocks_of, hint_size_of, least_block, cache, row_of, is_repeated}
use Rattle.pd_grammar.specs.Texts.{is_printable}
use Rattle.pd_grammar.specs.Tables.{LineKind}
use Rattle.pd_texts.specs.ThinLaws.{header_is}
use Rattle.pd_texts.specs.ThinLine.{text_of_line}
use Rattle.pd_texts.specs.ThinState.{stage_of}
use Rattle.pd_texts_kinds.specs.declared.cache_lines.CacheLine.{CacheLine}
use Rattle.pd_texts_kinds.specs.declared.cache_state.CacheKind.{CacheKind}
use Rattle.pd_texts_kinds.specs.declared.cache_state.CacheState.{CacheState}
use Rattle.pd_texts_kinds.specs.declared.cache_lines.CacheLine.TheVariants as c
use Rattle.pd_texts_kinds.specs.declared.cache_state.CacheKind.TheVariants as k

-- the line that a value gives
abbrev pub line_of : CacheLine → Line
line_of (c.Cache uuid block_size blocks clean policy versions hint_size) = cache_line (record {
  uuid = uuid;
  block_size = block_size;
  blocks = blocks;
  clean = flag_number clean;
  policy = policy;
  major = slice_index versions 0;
  minor = slice_index versions 1;
  patch = slice_index versions 2;
  hint_size = hint_size;
})
line_of (c.Map block origin dirty hint) = map_line (record { block = block; origin = origin; dirty = flag_number dirty; hint = hint })

-- what a line after the first one gives, where the last line gives nothing
abbrev pub cache_meant : Option CacheLine → Line
cache_meant None = end_line
cache_meant (Some line) = line_of line

-- the first line has only bytes that a line may have
pub cache_header : (bytes : List ℕ) → list_all is_printable bytes ≡ false → cache_single.first bytes ≡ None
cache_header = header_is (codes "cache 1") first_line refl

-- the last line is the one that gives nothing
pub cache_ends : (line : Option CacheLine) → cache_single.is_end (cache_meant line) ≡ is_none line
cache_ends None = refl
cache_ends (Some (c.Cache uuid block_size blocks clean policy versions hint_size)) = refl
cache_ends (Some (c.Map block origin dirty hint)) = refl

-- the kind of a line
abbrev pub kind_meant : CacheKind → LineKind Line
kind_meant k.Cache = cache_kind
kind_meant k.Map = map_kind
kind_meant k.End = end_kind

-- a cache line after these lines
pub record IsCacheLine (before : List Line) (h : Head) : Type 0 where
  pub second : length before ≡ 1
  pub uuid_len : length h.uuid ≡ 16
  pub uuid_bytes : All (λ b. b < 256) h.uuid
  pub block_size_fits : h.block_size < 2 ^ 32
  pub blocks_fit : h.blocks < 2 ^ 32
  pub clean_is_flag : h.clean ≤ 1
  pub policy_len : length h.policy ≡ 16
  pub policy_bytes : All (λ b. b < 256) h.policy
  pub major_fits : h.major < 2 ^ 32
  pub minor_fits : h.minor < 2 ^ 32
  pub patch_fits : h.patch < 2 ^ 32
  pub hint_size_is : (h.hint_size ≡ 0) ⊎ (h.hint_size ≡ 4)

-- a map line after these lines: its cache block is above the last one, and one of the cache
pub record IsMapLine (before : List Line) (r : Row) : Type 0 where
  pub later : 2 ≤ length before
  pub above : least_block before ≤ r.block
  pub within : r.block < blocks_of before
  pub origin_fits : r.origin < 2 ^ 48
  pub dirty_is_flag : r.dirty ≤ 1
  pub hint_fits : r.hint < 2 ^ 32
  pub no_hint : hint_size_of before ≡ 0 → r.hint ≡ 0

-- the last line after these lines
pub record IsEndLine (before : List Line) : Type 0 where
  pub later : 2 ≤ length before

-- a line for each entry
abbrev pub entries_text : List CacheEntry → List ℕ
entries_text entries = flat_map (λ entry. text_of_line cache (row_of entry)) entries

-- the state is that of these lines, the newest first
pub record CacheStands (state : CacheState) (before : List Line) : Type 0 where
  pub stage : state.stage ≡ stage_of before
  pub blocks : state.blocks ≡ blocks_of before
  pub hint_size : state.hint_size ≡ hint_size_of before
  pub least_block : state.least_block ≡ least_block before

-- none of these lines, the newest first, has the origin of an earlier one
abbrev pub OriginsDiffer : List Line → Type 0
OriginsDiffer [] = Unit {0}
OriginsDiffer (line ∷ before) = (is_repeated before line ≡ false) × OriginsDiffer before
