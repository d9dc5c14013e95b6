-- A cache from the lines after its own.
use Rattle.std.proofs.Common.{◌≡◌, ◌≢◌, inl, inr, ℕ, ◌≤◌, List, [], ◌∷◌, length, refl, sym, ◌∙◌, ap₂, subst, arith, Option, Result, Ok, Err, set, Some, IfSome}
use Rattle.std.specs.Prelude.{IfOk, OnOk, MatchResult, is_some}
use Rattle.std.proofs.lemmas.Bool.{ne_eqb}
use Rattle.pd_kinds.specs.declared.block.Block.{Block}
use Rattle.pd_kinds.specs.Meaning.{CacheMeaning}
use Rattle.pd_kinds.specs.Crash.{HoldsSynced, IsOldOrNone, LeavesOnly}
use Rattle.pd_kinds.specs.Field.{zeros}
use Rattle.pd_kinds.specs.Image.{room_of}
use Rattle.pd_kinds.specs.Objects.{DeviceState}
use Rattle.pd_kinds.proofs.CrashLemmas.{Image}
use Rattle.pd_grammar.specs.CacheText.{need_of_cache, cache_need, cache_need_so_far, Line, first_line, cache_line, end_line, cache, cache_single}
use Rattle.pd_grammar.specs.Lawful.{IsLawfulCache}
use Rattle.pd_laid.specs.Laid.{written_from}
use Rattle.pd_laid.specs.LaidCache.{cache_laid_fields, laid_cache}
use Rattle.pd_draft.specs.Closed.{DraftState, Wrote}
use Rattle.pd_texts.specs.Reader.{IsWhole}
use Rattle.pd_restoring.specs.declared.fault.RestoreFault.{RestoreFault}
use Rattle.pd_restoring.specs.Reading.{BeginsOf, NoneAbove, SaysOf}
use Rattle.pd_restoring.specs.Restored.{Writes, Lays}
use Rattle.pd_restoring.proofs.ReadingLemmas.{above_next, refused_says}
use Rattle.pd_restoring.specs.declared.fault.MadeFault.{MadeFault}
use Rattle.pd_restoring.specs.Made.{ending_of, failed}
use Rattle.pd_restoring.proofs.MakingLemmas.{laid_made, never_closed}
use Rattle.pd_restoring.specs.declared.fault.RestoreFault.TheVariants as r
use Rattle.pd_salvage_cache.specs.declared.saved.CacheHead.{CacheHead}
use Rattle.pd_salvage_cache.specs.declared.saved.Row.{Row}
use Rattle.pd_salvage_cache.specs.SavedCache.{cache_meaning}
use Rattle.pd_restore_kinds.specs.declared.cache.Begun.{Begun}
use Rattle.pd_restore_kinds.specs.declared.cache_lines.Gathered.{Gathered}
use Rattle.pd_restore_kinds.specs.declared.cache_parts.CacheRoots.{CacheRoots}
use Rattle.pd_restore_kinds.specs.Caches.{caches, CacheLeaves, IsCacheMadeOf, cache_content}
use Rattle.pd_restore_kinds.specs.CacheReading.{after_rows, begun_lines, head_of_cache, lines_of, meaning_of, HasAll, SaysAfter}
use Rattle.pd_restore_kinds.specs.CacheRoots.{AreParts, fields_of}
use Rattle.pd_restore_kinds.proofs.CacheLineLemmas.{gathered_lawful, gathered_accepted}
use Rattle.pd_laws_laid.proofs.NeedLemmas.{cache_takes_need}

-- nothing was gathered yet
pub none_gathered : (g : Gathered) (begun : Begun) → g.cache ≡ begun.cache → g.rows.items ≡ [] → lines_of g ≡ begun_lines begun.cache
none_gathered g begun cache rows = ap₂ (λ (c : CacheHead) (rs : List Row). after_rows (begun_lines c) rs) cache rows

-- the lines of rows need no more than the cache line
rows_need : (version room : ℕ) (before : List Line) (rows : List Row) → cache_need_so_far version room (after_rows before rows) ≡ cache_need_so_far version room before
rows_need version room before [] = refl
rows_need version room before (row ∷ rows) = rows_need version room _ rows

rows_above : (version room : ℕ) (before : List Line) (rows : List Row) → NoneAbove (cache_need_so_far version) room before → cache_need_so_far version room before ≤ room
    → NoneAbove (cache_need_so_far version) room (after_rows before rows)
rows_above version room before [] above fits = above
rows_above version room before (row ∷ rows) above fits = rows_above version room _ rows (above_next (cache_need_so_far version) room before _ above fits) fits

all_above : (c : CacheHead) (version room : ℕ) (rows : List Row) → cache_need_so_far version room (begun_lines c) ≤ room → NoneAbove (cache_need_so_far version) room (after_rows (begun_lines c) rows)
all_above c version room rows fits =
    rows_above version room (begun_lines c) rows (above_next (cache_need_so_far version) room (first_line ∷ []) (cache_line (head_of_cache c)) (λ lines. refl) fits) fits

-- what a refusal says where there is room
pub says_of : (c : CacheHead) (version room : ℕ) (t : List ℕ) (fault : RestoreFault) → cache_need_so_far version room (begun_lines c) ≤ room → SaysAfter c t fault
    → SaysOf cache (cache_need_so_far version) room t fault
says_of c version room t r.Memory fits says = tt
says_of c version room t r.Source fits says = tt
says_of c version room t r.Device fits says = tt
says_of c version room t (r.Text fault) fits (rows, inl is) = refused_says cache (cache_need_so_far version) room t (after_rows (begun_lines c) rows) fault (all_above c version room rows fits) is
says_of c version room t (r.Text fault) fits (rows, inr is) =
    let lines = after_rows (begun_lines c) rows in
    let need = rows_need version room (begun_lines c) rows in
    refused_says cache (cache_need_so_far version) room t (end_line ∷ lines) fault
    (above_next (cache_need_so_far version) room lines end_line (all_above c version room rows fits) (omega (arith, need, fits))) is
says_of c version room t (r.NoRoom needed blocks) fits says = absurd says

-- the superblock
pub fields_are : (c : CacheHead) (rows : List Row) (parts : CacheRoots) (version room : ℕ) → AreParts (cache_meaning c rows) version room parts
    → fields_of c parts version ≡ cache_laid_fields (cache_meaning c rows) version room
unfolding cache_laid_fields
fields_are c rows parts version room are = rw (are.mapping_root, are.hint_root, are.dirty_root, are.discard_root, are.meta_map) refl

pub no_dirty_root : (m : CacheMeaning) (version room : ℕ) (parts : CacheRoots) → AreParts m version room parts → version ≢ 2 → parts.dirty_root ≡ 0
unfolding cache_laid_fields
no_dirty_root m version room parts are other = are.dirty_root ∙ rw (ne_eqb version 2 other) refl

-- what was gathered needs what the cache line does
pub gathered_need : (g : Gathered) (begun : Begun) (version room : ℕ) → g.cache ≡ begun.cache → cache_need_so_far version room (begun_lines begun.cache) ≤ room
    → cache_need version (meaning_of g) room ≤ room
gathered_need g begun version room same need = subst (λ (c : CacheHead). need_of_cache version c.blocks c.hint_size room ≤ room) (sym same) need

-- what is written is a laid cache, and what a text means whose lines were gathered
pub writes_of : (start now : DraftState) (result : Result Block RestoreFault) (begun : Begun) (g : Gathered) (version room : ℕ) (was left : Option (List ℕ)) → length g.cache.versions ≡ 3 → HasAll g
    → cache_need version (meaning_of g) room ≤ room → room ≤ 4161600 → ((t : List ℕ) → CacheLeaves t begun was → IsWhole cache_single t (end_line ∷ lines_of g) left)
    → IfOk result (λ block. block.0 ≡ (laid_cache (meaning_of g) version room).super_block) → OnOk result (Wrote (written_from 1 (laid_cache (meaning_of g) version room).blocks) start now)
    → IfOk result (Writes (caches version) room (λ t. CacheLeaves t begun was) left start now)
writes_of start now (Err fault) begun g version room was left three all need most told super wrote = tt
writes_of start now (Ok block) begun g version room was left three all need most told super wrote = record {
  meaning = meaning_of g;
  lawful = gathered_lawful g three all;
  fits = let number = cache_takes_need (meaning_of g) version room (omega arith) in omega (arith, number);
  super_is = super;
  wrote = wrote;
  told = λ t leaves. let whole = told t leaves in (gathered_accepted g version room t left three all need whole, whole.1);
}

-- what begins a text, for the need of a version
pub told_for : (result : Result Begun RestoreFault) (version : ℕ) (t : List ℕ) (left : Option (List ℕ))
    → MatchResult result (λ begun. CacheLeaves t begun left) (λ fault. (need : ℕ → List Line → ℕ) (room : ℕ) → BeginsOf cache need room t fault)
    → MatchResult result (λ begun. CacheLeaves t begun left) (λ fault. (room : ℕ) → BeginsOf cache (cache_need_so_far version) room t fault)
told_for (Ok begun) version t left told = told
told_for (Err fault) version t left told = told (cache_need_so_far version)

-- A cache that is held in memory and was written to a device.

module _ (m : CacheMeaning) (version room : ℕ) (old mid : DeviceState) (here : room ≡ room_of old.blocks) (fits : cache_need version m room ≤ room)
    (first : (image : Image) → HoldsSynced image old → LeavesOnly (IsOldOrNone image) old mid) where
  fits_here : cache_need version m (room_of old.blocks) ≤ room_of old.blocks
  fits_here = rw here at fits

  pub saved_unwritten : is_some mid.held ≡ is_some old.held → IsCacheMadeOf version m failed old mid
  saved_unwritten told = never_closed (cache_content version m) old mid fits_here first told

  pub saved_made : (new : DeviceState) → is_some new.held ≡ is_some old.held → IfSome old.held (λ image. mid.held ≡ Some (set image 0 zeros)) → IfSome old.held (λ image. length image ≡ old.blocks)
      → IsLawfulCache m → (result : Result (Unit {0}) MadeFault) → Lays (laid_cache m version room) result mid new → IsCacheMadeOf version m (ending_of result) old new
  saved_made new told zeroed measured lawful result lays =
      let number = cache_takes_need m version (room_of old.blocks) (omega (arith, fits_here)) in
      laid_made (cache_content version m) old mid fits_here first new (omega (arith, number, fits_here)) told zeroed measured lawful result (rw here at lays)
