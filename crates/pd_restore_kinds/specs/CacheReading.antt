-- A cache's lines as they are gathered; of lines the newest comes first.
-- The cache that was gathered.
-- The first map line that has the origin of an earlier one; of lines the newest comes first.
-- A cache's text that is read line by line.
use Rattle.std.specs.Prelude.{List, [], ◌∷◌, slice_index, ◌≡◌, ℕ, ◌+◌, ◌<◌, ◌≤◌, true, ◌++◌, length, map, slice_index_or, ◌⊎◌, ◌^◌, Bool, false, Option}
use Rattle.std.specs.List.{enumerate_from}
use Rattle.pd_kinds.specs.Meaning.{CacheMeaning}
use Rattle.pd_grammar.specs.CacheText.{Line, Head, first_line, cache_line, flag_number, row_of, is_repeated, end_line, cache, cache_single, least_block}
use Rattle.pd_grammar.specs.Texts.{number_after}
use Rattle.pd_grammar.specs.declared.cause.TextCause.TheVariants.{Repeated}
use Rattle.pd_texts.specs.declared.reader.TextReader.{TextReader}
use Rattle.pd_texts.specs.Reader.{AreReadSoFar, ReadsOn, LeavesOf, IsWhole, IsRefusedAfter}
use Rattle.pd_texts_kinds.specs.CacheLine.{OriginsDiffer, line_of, CacheStands}
use Rattle.pd_texts_kinds.specs.declared.cache_lines.CacheLine.{CacheLine}
use Rattle.pd_texts_kinds.specs.declared.cache_state.CacheState.{CacheState}
use Rattle.pd_restoring.specs.declared.fault.RestoreFault.{RestoreFault}
use Rattle.pd_restoring.specs.declared.fault.RestoreFault.TheVariants as r
use Rattle.pd_salvage_cache.specs.declared.saved.CacheHead.{CacheHead}
use Rattle.pd_salvage_cache.specs.declared.saved.Row.{Row}
use Rattle.pd_salvage_cache.specs.SavedCache.{entry, cache_meaning}
use Rattle.pd_restore_kinds.specs.declared.cache_lines.Gathered.{Gathered}

-- the words of the cache line
abbrev pub head_of_cache : CacheHead → Head
head_of_cache c = record {
  uuid = c.uuid;
  block_size = c.block_size;
  blocks = c.blocks;
  clean = flag_number c.clean;
  policy = c.policy;
  major = slice_index c.versions 0;
  minor = slice_index c.versions 1;
  patch = slice_index c.versions 2;
  hint_size = c.hint_size;
}

-- the first two lines
abbrev pub begun_lines : CacheHead → List Line
begun_lines c = cache_line (head_of_cache c) ∷ first_line ∷ []

-- the lines of rows after others
abbrev pub after_rows : List Line → List Row → List Line
after_rows before [] = before
after_rows before (r ∷ rows) = after_rows (row_of (entry r) ∷ before) rows

-- the lines that were gathered
abbrev pub lines_of : Gathered → List Line
lines_of g = after_rows (begun_lines g.cache) g.rows.items

-- by the cache line, and a row for each entry
abbrev pub meaning_of : Gathered → CacheMeaning
meaning_of g = cache_meaning g.cache g.rows.items

-- it is among these lines, behind these ones
pub record RepeatsAfter (lines before : List Line) : Type 0 where
  pub line : Line
  pub later : List Line
  pub are : lines ≡ later ++ line ∷ before
  pub repeats : is_repeated before line ≡ true
  pub differ : OriginsDiffer before

-- why lines are refused: memory is wanting, or one repeats an origin, and this is the first
abbrev pub IsRepeatIn : Gathered → RestoreFault → Type 0
IsRepeatIn g r.Memory = Unit {0}
IsRepeatIn g r.Source = ⊥
IsRepeatIn g r.Device = ⊥
IsRepeatIn g (r.Text fault) =
    (rows : List Row) × (let before = after_rows (begun_lines g.cache) rows in
    RepeatsAfter (lines_of g) before × (fault ≡ record { line = number_after before; cause = Repeated }))
IsRepeatIn g (r.NoRoom need blocks) = ⊥

-- so many rows stand before the first one that has the origin of an earlier one, or there is none, and they are all
pub record IsFirstRepeat (rows : List Row) (n : ℕ) : Type 0 where
  pub within : n ≤ length rows
  pub differ : (j k : ℕ) (d : Row) → j < k → k < n → (slice_index_or rows j d).origin ≡ (slice_index_or rows k d).origin → ⊥
  pub repeats : (d : Row) → n < length rows → (j : ℕ) × ((j < n) × ((slice_index_or rows j d).origin ≡ (slice_index_or rows n d).origin))

-- the origins of rows, with the rows' places
abbrev pub places_in : List Row → List (ℕ × ℕ)
places_in rows = map (λ (p : ℕ × Row). (p.1.origin, p.0)) (enumerate_from 0 rows)

abbrev pub at : List (ℕ × ℕ) → ℕ → ℕ × ℕ
at places k = slice_index_or places k (0, 0)

-- of the first so many of these, it is the least place behind another one of its origin, or else the end
pub record IsLeastRepeat (places : List (ℕ × ℕ)) (high end n : ℕ) : Type 0 where
  pub most : n ≤ end
  pub least : (k : ℕ) → k + 1 < high → (at places k).0 ≡ (at places (k + 1)).0 → n ≤ (at places (k + 1)).1
  pub there : n < end → (k : ℕ) × ((k + 1 < length places) × (((at places k).0 ≡ (at places (k + 1)).0) × ((at places (k + 1)).1 ≡ n)))

-- the lines that were gathered are those that were read
pub record Reads (text : TextReader CacheState CacheLine) (g : Gathered) : Type 0 where
  pub reads : ReadsOn cache_single CacheStands (lines_of g) text
  -- each has a cache block of its own
  pub few : length g.rows.items ≤ least_block (lines_of g)
  pub low : least_block (lines_of g) ≤ 2 ^ 32
  pub small : g.cache.blocks < 2 ^ 32

-- a line was taken after those that were gathered
pub record TakesLine (line : CacheLine) (old new : Gathered) : Type 0 where
  pub lines : lines_of new ≡ line_of line ∷ lines_of old
  pub number : length new.rows.items ≡ length old.rows.items + 1

-- all steps that read a line, up to the end
pub record EndsReading (old : TextReader CacheState CacheLine) (was left : Option (List ℕ)) (from to : Gathered) : Type 0 where
  pub lines : AreReadSoFar cache_single (end_line ∷ lines_of to)
  pub told : (t : List ℕ) → LeavesOf cache_single t (lines_of from) old was → IsWhole cache_single t (end_line ∷ lines_of to) left

-- one step: a line more, or the end
abbrev pub StepsGathering : Bool → TextReader CacheState CacheLine → Option (List ℕ) → TextReader CacheState CacheLine → Option (List ℕ) → Gathered → Gathered → Type 0
StepsGathering true old was text left from to = Reads text to × ((length to.rows.items ≡ length from.rows.items + 1)
    × ((t : List ℕ) → LeavesOf cache_single t (lines_of from) old was → LeavesOf cache_single t (lines_of to) text left))
StepsGathering false old was text left from to = EndsReading old was left from to

-- what a fault says of a text whose lines are read without the origins of the others
abbrev pub SaysSingle : List ℕ → Gathered → RestoreFault → Type 0
SaysSingle t g r.Memory = Unit {0}
SaysSingle t g r.Source = Unit {0}
SaysSingle t g r.Device = ⊥
SaysSingle t g (r.Text fault) = IsRefusedAfter cache_single t (lines_of g) fault ⊎ IsRefusedAfter cache_single t (end_line ∷ lines_of g) fault
SaysSingle t g (r.NoRoom need blocks) = ⊥

-- all lines were read, with the last one, and none repeats an origin
pub record HasAll (g : Gathered) : Type 0 where
  pub lines : AreReadSoFar cache_single (end_line ∷ lines_of g)
  pub differ : OriginsDiffer (lines_of g)

-- all steps
pub record EndsGathering (old : TextReader CacheState CacheLine) (was left : Option (List ℕ)) (from to : Gathered) : Type 0 where
  pub all : HasAll to
  pub cache_is : to.cache ≡ from.cache
  pub told : (t : List ℕ) → LeavesOf cache_single t (lines_of from) old was → IsWhole cache_single t (end_line ∷ lines_of to) left

-- what a fault says of a text: it is refused after the lines of some rows, or after the last line that follows them
abbrev pub SaysAfter : CacheHead → List ℕ → RestoreFault → Type 0
SaysAfter c t r.Memory = Unit {0}
SaysAfter c t r.Source = Unit {0}
SaysAfter c t r.Device = ⊥
SaysAfter c t (r.Text fault) = (rows : List Row) × (IsRefusedAfter cache t (after_rows (begun_lines c) rows) fault ⊎ IsRefusedAfter cache t (end_line ∷ after_rows (begun_lines c) rows) fault)
SaysAfter c t (r.NoRoom need blocks) = ⊥
