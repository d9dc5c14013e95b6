-- Caches, as what is restored.
-- What the first two lines of a cache's text give.
-- A cache as what is written.
use Rattle.std.specs.Prelude.{ℕ, List, ◌++◌, Option, ◌≡◌, ◌^◌, ◌<◌, length, Some, None}
use Rattle.std.proofs.Common.{refl, ap}
use Rattle.pd_kinds.specs.Meaning.{CacheMeaning}
use Rattle.pd_kinds.specs.Objects.{DeviceState}
use Rattle.pd_grammar.specs.Texts.{lines_after, stopped, split}
use Rattle.pd_grammar.proofs.SpellingLemmas.{some_verdict}
use Rattle.pd_grammar.specs.CacheText.{cache_need_so_far, Line, MeansCache, first_line, cache_line, cache, cache_single, repeated_test, cache_need}
use Rattle.pd_grammar.specs.Lawful.{IsLawfulCache}
use Rattle.pd_grammar.proofs.CacheRead.{FitsLine, Placed}
use Rattle.pd_grammar.proofs.CacheLaws.{cache_language}
use Rattle.pd_grammar.specs.Texts
use Rattle.pd_laid.specs.LaidCache.{laid_cache}
use Rattle.pd_lines.specs.Reader.{held_of}
use Rattle.pd_texts.specs.Reader.{LeavesOf, ReadsOn}
use Rattle.pd_texts_kinds.proofs.CacheLemmas.{front_lines}
use Rattle.pd_texts_kinds.specs.declared.cache_lines.CacheLine.{CacheLine}
use Rattle.pd_texts_kinds.specs.CacheLine.{CacheStands}
use Rattle.pd_texts_kinds.specs.declared.cache_lines.CacheLine.TheVariants as v
use Rattle.pd_restoring.specs.Reading.{BeginsWith}
use Rattle.pd_restoring.specs.Restored.{Subject, HasVerdicts}
use Rattle.pd_restoring.specs.Made.{Content, Ending, IsMade}
use Rattle.pd_salvage_cache.specs.declared.saved.CacheHead.{CacheHead}
use Rattle.pd_restore_kinds.specs.declared.cache.Begun.{Begun}
use Rattle.pd_restore_kinds.specs.CacheReading.{begun_lines, head_of_cache}

-- caches in a version of the metadata, and their texts
abbrev pub caches : ℕ → Subject Line CacheMeaning
caches version = record {
  format = cache;
  Means = MeansCache;
  need = cache_need_so_far version;
  Lawful = IsLawfulCache;
  laid = λ (m : CacheMeaning) (room : ℕ). laid_cache m version room;
}

-- the first two lines, the newest first
abbrev pub lines_of_begun : Begun → List Line
lines_of_begun begun = begun_lines begun.cache

-- they were read of this text, and this is left of the source
abbrev pub CacheLeaves : List ℕ → Begun → Option (List ℕ) → Type 0
CacheLeaves text begun left = LeavesOf cache_single text (begun_lines begun.cache) begun.text left

-- each text of a cache has a verdict
pub cache_verdicts : (version : ℕ) → HasVerdicts (caches version)
cache_verdicts version text room = some_verdict cache MeansCache FitsLine Placed cache_language (cache_need_so_far version room) text room

-- a text of which they were read begins with them
pub cache_goes_on : (text : List ℕ) (begun : Begun) (left : Option (List ℕ)) → CacheLeaves text begun left → BeginsWith cache text (begun_lines begun.cache)
cache_goes_on text begun left leaves =
    let lines = begun_lines begun.cache in
    let rest = lines_after cache_single lines (split 10 (held_of begun.text.reader ++ leaves.rest)) in
    record {
      first = first_line;
      second = cache_line (head_of_cache begun.cache);
      are = refl;
      rest = (stopped repeated_test lines rest).lines;
      is = ap (λ (r : Texts.Reading Line). r.lines) (front_lines text lines rest leaves.is (refl, (refl, tt)));
    }

-- the line is a cache's
abbrev pub IsOfCache : Option CacheLine → Type 0
IsOfCache None = ⊥
IsOfCache (Some (v.Cache uuid block_size blocks clean policy versions hint_size)) = Unit {0}
IsOfCache (Some (v.Map block origin dirty hint)) = ⊥

-- its number of blocks fits, and a policy's version has three numbers
pub record IsSmall (c : CacheHead) : Type 0 where
  pub blocks : c.blocks < 2 ^ 32
  pub versions : length c.versions ≡ 3

-- the first two lines were read, from whatever source
pub record HasBegun (b : Begun) : Type 0 where
  pub reads : ReadsOn cache_single CacheStands (begun_lines b.cache) b.text
  pub small : IsSmall b.cache

-- in a version of the metadata
abbrev pub cache_content : ℕ → CacheMeaning → Content
cache_content version m = record { Lawful = IsLawfulCache m; need = cache_need version m; laid = laid_cache m version }

-- what becomes of the device
abbrev pub IsCacheMadeOf : ℕ → CacheMeaning → Ending → DeviceState → DeviceState → Type 0
IsCacheMadeOf version m ending old new = IsMade (cache_content version m) ending old new
