-- Trusted base.
-- What repairs with shared leaves leave, and those of caches, where the objects tell what they hold.
-- What a dry run of a repair tells, of a pool whose devices are whole, and of the room that a repair has.
use Rattle.std.specs.Prelude.{◌≡◌, ◌⊎◌, ℕ, true, List, [], Option, Some, None, IfSome, Bool, false}
use Rattle.std.specs.Option.{unwrap_or}
use Rattle.pd_kinds.specs.declared.kind.Kind.TheVariants.{Cache}
use Rattle.pd_kinds.specs.declared.kind.Stage.TheVariants.{Super, Whole}
use Rattle.pd_kinds.specs.CacheFormat.{CacheFields, cache_fields}
use Rattle.pd_kinds.specs.Crash.{HoldsSynced, IsOldNoneOrMade, LeavesOnly}
use Rattle.pd_kinds.specs.Graph.{block_at, data_count}
use Rattle.pd_kinds.specs.Image.{IsImage}
use Rattle.pd_kinds.specs.Meaning.{CacheMeaning, ThinPool, ThinDevice}
use Rattle.pd_kinds.specs.Objects.{Appends}
use Rattle.pd_kinds.specs.Stages.{faults}
use Rattle.pd_kinds.specs.ThinFormat.{thin_graph}
use Rattle.pd_laid.specs.Laid.{count_in}
use Rattle.pd_laid.specs.Salvage.{salvage, saved_shape}
use Rattle.pd_laid.specs.CacheRoots.{unknown_words}
use Rattle.pd_laid.specs.SavedCache.{saved_cache_from}
use Rattle.pd_laid.specs.Shape.{ThinShape, image_shape}
use Rattle.pd_laid.specs.PoolText.{shape_data}
use Rattle.pd_answers.specs.Terms.{Objects, IsAnswered}
use Rattle.pd_answers.specs.KeptCache.{keeps_line, kept_cache_text, with_roots}
use Rattle.pd_answers.specs.declared.request.CacheRoots.{CacheRoots}
use Rattle.pd_answers.specs.Promises.{terms_of}
use Rattle.pd_answers.specs.declared.request.Request.TheVariants.{Repair, RepairCache}
use Rattle.pd_answers.specs.KeptLines.{Told, kept_line}
use Rattle.pd_laws_laid.specs.Clean.{IsCleanPool}
use Rattle.pd_laws_answers.specs.Exact.{IsCleanCacheIn}

-- a repair with shared leaves of one image onto another was asked, and was answered with this status
abbrev pub IsSharedRepairAnswered : List ℕ → List ℕ → Objects → Objects → ℕ → Type 0
IsSharedRepairAnswered from to = IsAnswered (terms_of (Some (Repair true from to)))

-- the image is clean and means the pool, its devices share the leaves that the shape says, and it counts each data block as often as
-- the shape tells it: a shared leaf's once
pub record KeepsShape (image : List (List ℕ)) (m : ThinPool) (w : ThinShape) : Type 0 where
  pub pool : IsCleanPool image m
  pub shape : image_shape image ≡ w
  pub counts : (d : ℕ) → data_count (thin_graph (block_at image 0)) image d ≡ count_in (shape_data w) d

-- the output holds such an image of what is saved of the input, and nothing of it is unsynced
abbrev pub HoldsSavedShape : Objects → Objects → Type 0
HoldsSavedShape before after =
    IfSome before.input.held (λ image. IsImage image → IfSome before.output.held (λ base.
    IfSome after.output.held (λ made. KeepsShape made (salvage image) (saved_shape image) × HoldsSynced made after.output)))

-- a crash at any moment leaves, by no chance, the old image, no valid superblock, or such an image
abbrev pub LeavesSavedShape : Objects → Objects → Type 0
LeavesSavedShape before after =
    IfSome before.input.held (λ image. IsImage image → IfSome before.output.held (λ base.
    LeavesOnly (IsOldNoneOrMade base (λ left. KeepsShape left (salvage image) (saved_shape image))) before.output after.output))

-- the superblock of an image with the roots that are named, and what is saved from it; and no root is named
abbrev pub fields_with : CacheRoots → List (List ℕ) → CacheFields
fields_with named image = with_roots named (cache_fields (block_at image 0))

abbrev pub saved_with : CacheRoots → List (List ℕ) → CacheMeaning
saved_with named image = saved_cache_from (fields_with named image) image

abbrev pub no_roots : CacheRoots
no_roots = record { mappings = None; hints = None; dirty = None }

-- a repair of a cache in one image onto another was asked, in this version of the metadata or in its own, and with these roots, and was
-- answered with this status
abbrev pub IsCacheRepairAnswered : Option ℕ → CacheRoots → List ℕ → List ℕ → Objects → Objects → ℕ → Type 0
IsCacheRepairAnswered version named from to = IsAnswered (terms_of (Some (RepairCache version named from to)))

-- a version that is asked is 1 or 2
abbrev pub IsVersionAsked : Option ℕ → Type 0
IsVersionAsked version = IfSome version (λ v. (v ≡ 1) ⊎ (v ≡ 2))

-- the version that is written: the image's own, where none is asked
abbrev pub version_written : Option ℕ → List (List ℕ) → ℕ
version_written version image = unwrap_or version (cache_fields (block_at image 0)).version

-- the image is clean and means what is saved of another one with these roots, in that version
abbrev pub IsSavedCache : Option ℕ → CacheRoots → List (List ℕ) → List (List ℕ) → Type 0
IsSavedCache version named image made = IsCleanCacheIn (version_written version image) made (saved_with named image)

-- the output holds such an image, and nothing of it is unsynced
abbrev pub HoldsSavedCache : Option ℕ → CacheRoots → Objects → Objects → Type 0
HoldsSavedCache version named before after =
    IfSome before.input.held (λ image. IsImage image → IfSome before.output.held (λ base.
    IfSome after.output.held (λ made. IsSavedCache version named image made × HoldsSynced made after.output)))

-- the line of what is kept was put to `out`
abbrev pub PutsKept : CacheRoots → Objects → Objects → Type 0
PutsKept named before after =
    IfSome before.input.held (λ image. Appends (keeps_line (saved_with named image) (unknown_words (fields_with named image) image)) before.out.written after.out.written)

-- the superblock of the image that was read has no faults, and it was put what a repair with these roots would keep, and which mapping
-- arrays are fuller
pub record TellsCache (named : CacheRoots) (image : List (List ℕ)) (before after : Objects) : Type 0 where
  pub sound : faults Cache Super image ≡ []
  pub put : Appends (kept_cache_text named image) before.out.written after.out.written

abbrev pub TellsCacheOfInput : CacheRoots → Objects → Objects → Type 0
TellsCacheOfInput named before after = IfSome before.input.held (λ image. TellsCache named image before after)

-- a crash at any moment leaves, by no chance, the old image, no valid superblock, or such an image
abbrev pub LeavesSavedCache : Option ℕ → CacheRoots → Objects → Objects → Type 0
LeavesSavedCache version named before after =
    IfSome before.input.held (λ image. IsImage image → IfSome before.output.held (λ base.
    LeavesOnly (IsOldNoneOrMade base (IsSavedCache version named image)) before.output after.output))

-- a sound cache is to be repaired, onto an output that tells what it holds
pub record IsSoundCacheRepair (image base : List (List ℕ)) (before : Objects) : Type 0 where
  pub is : IsImage image
  pub sound : faults Cache Whole image ≡ []
  pub read : before.input.held ≡ Some image
  pub held : before.output.held ≡ Some base

-- the line of a device that is whole
abbrev pub whole_line : ThinDevice → List ℕ
whole_line d = kept_line d.id d.mapped (Some d.mapped)

-- the least number of blocks for a repair, without shared leaves or with them
abbrev pub told_need : Bool → Told → ℕ
told_need false told = told.need
told_need true told = told.shared_need
