-- Trusted base.
-- What restores leave and what checks tell, where the objects tell what they hold.
use Rattle.std.specs.Prelude.{◌≡◌, ◌⊎◌, ℕ, ◌≤◌, false, List, [], Some, IfSome, drop, length}
use Rattle.std.specs.List.{AllByRecursion}
use Rattle.pd_kinds.specs.declared.kind.Kind.{Kind}
use Rattle.pd_kinds.specs.declared.kind.Kind.TheVariants.{Thin, Cache, Era}
use Rattle.pd_kinds.specs.declared.kind.Flagged.{Flagged}
use Rattle.pd_kinds.specs.declared.kind.Passing.{Passing}
use Rattle.pd_kinds.specs.declared.kind.Passing.TheVariants.{Nothing, Leaks}
use Rattle.pd_kinds.specs.declared.kind.Stage.{Stage}
use Rattle.pd_kinds.specs.declared.kind.Stage.TheVariants.{Counts, Whole}
use Rattle.pd_kinds.specs.CacheFormat.{cache_fields}
use Rattle.pd_kinds.specs.Crash.{HoldsSynced, IsOldNoneOrMade, LeavesOnly}
use Rattle.pd_kinds.specs.Flagged.{kind_of}
use Rattle.pd_kinds.specs.Graph.{block_at, data_count}
use Rattle.pd_kinds.specs.Meaning.{CacheMeaning, thin_meaning, cache_meaning, era_meaning}
use Rattle.pd_kinds.specs.Leaks.{AreCountsEnough, OnlyLeaks}
use Rattle.pd_kinds.specs.Stages.{IsClean, checked_of, faults}
use Rattle.pd_kinds.specs.ThinFormat.{thin_graph}
use Rattle.pd_kinds.specs.Image.{IsImage, room_of}
use Rattle.pd_kinds.specs.declared.kind.Flagged.TheVariants as flags
use Rattle.pd_grammar.specs.Need.{thin_need}
use Rattle.pd_grammar.specs.CacheText.{cache_need, SpellsCache}
use Rattle.pd_grammar.specs.EraText.{era_need, SpellsEra}
use Rattle.pd_laid.specs.Laid.{count_in}
use Rattle.pd_laid.specs.Salvage.{salvage}
use Rattle.pd_laid.specs.Shape.{ThinShape, pool_of, image_shape}
use Rattle.pd_laid.specs.PoolText.{SpellsPoolShape, shape_data, shape_need, text_of_shape}
use Rattle.pd_answers.specs.Terms.{NoFaults, Objects, IsAnswered}
use Rattle.pd_answers.specs.Flag.{cleared, needs_check}
use Rattle.pd_answers.specs.Promises.{terms_of}
use Rattle.pd_answers.specs.QueryLines.{image_text}
use Rattle.pd_answers.specs.declared.request.Request.TheVariants.{Check, CheckAndClear, PassingCheck, Repair, Restore}
use Rattle.pd_laws_laid.specs.Clean.{IsCleanPool, IsCleanCache, IsCleanEra}
use Rattle.pd_laws_shapes.specs.Counts.{IsSharedTwice}

-- a restore of this kind, in this version of its metadata, was asked, and was answered with this status
abbrev pub IsRestoreAnswered : Kind → ℕ → List ℕ → List ℕ → Objects → Objects → ℕ → Type 0
IsRestoreAnswered kind version file path = IsAnswered (terms_of (Some (Restore kind version file path)))

-- the text spells something, and the image is a clean one of it
pub record IsOfText {M : Type 0} (Spells : List ℕ → M → Type 0) (IsCleanOf : List (List ℕ) → M → Type 0) (text : List ℕ) (image : List (List ℕ)) : Type 0 where
  pub meaning : M
  pub spells : Spells text meaning
  pub clean : IsCleanOf image meaning

-- the output holds such an image, and nothing of it is unsynced
abbrev pub HoldsOfText : {M : Type 0} → (List ℕ → M → Type 0) → (List (List ℕ) → M → Type 0) → Objects → Objects → Type 0
HoldsOfText Spells IsCleanOf before after =
    IfSome before.source.left (λ text. IfSome before.output.held (λ base.
    IfSome after.output.held (λ image. IsOfText Spells IsCleanOf text image × HoldsSynced image after.output)))

-- a crash at any moment leaves, by no chance, the old image, no valid superblock, or such an image
abbrev pub LeavesOfText : {M : Type 0} → (List ℕ → M → Type 0) → (List (List ℕ) → M → Type 0) → Objects → Objects → Type 0
LeavesOfText Spells IsCleanOf before after =
    IfSome before.source.left (λ text. IfSome before.output.held (λ base.
    LeavesOnly (IsOldNoneOrMade base (IsOfText Spells IsCleanOf text)) before.output after.output))

-- The image is clean and means the pool of the shape; its devices share the leaves that the shape says, where each of these
-- is used twice or more; and it counts each data block as often as the shape tells it: a shared leaf's once
pub record IsCleanShape (image : List (List ℕ)) (w : ThinShape) : Type 0 where
  pub pool : IsCleanPool image (pool_of w)
  pub shared : IsSharedTwice w → image_shape image ≡ w
  pub counts : (d : ℕ) → data_count (thin_graph (block_at image 0)) image d ≡ count_in (shape_data w) d

-- the output holds such an image of the shape of the text, whichever its version
abbrev pub HoldsPoolOfText : Objects → Objects → Type 0
HoldsPoolOfText = HoldsOfText SpellsPoolShape IsCleanShape

-- a crash leaves no other pool
abbrev pub LeavesPoolOfText : Objects → Objects → Type 0
LeavesPoolOfText = LeavesOfText SpellsPoolShape IsCleanShape

-- the image is clean, means the cache, and its superblock gives this version
pub record IsCleanCacheIn (version : ℕ) (image : List (List ℕ)) (m : CacheMeaning) : Type 0 where
  pub cache : IsCleanCache image m
  pub version_is : (cache_fields (block_at image 0)).version ≡ version

-- the output holds such an image of the cache of the text
abbrev pub HoldsCacheOfText : ℕ → Objects → Objects → Type 0
HoldsCacheOfText version = HoldsOfText SpellsCache (IsCleanCacheIn version)

-- a crash leaves no other cache, and none in another version
abbrev pub LeavesCacheOfText : ℕ → Objects → Objects → Type 0
LeavesCacheOfText version = LeavesOfText SpellsCache (IsCleanCacheIn version)

-- the output holds an image that is clean and means the era target of the text
abbrev pub HoldsTargetOfText : Objects → Objects → Type 0
HoldsTargetOfText = HoldsOfText SpellsEra IsCleanEra

-- a crash leaves no other era target
abbrev pub LeavesTargetOfText : Objects → Objects → Type 0
LeavesTargetOfText = LeavesOfText SpellsEra IsCleanEra

-- how many blocks the meaning of an image needs in this version of the metadata, in so many metadata blocks
abbrev pub image_need : Kind → ℕ → List (List ℕ) → ℕ → ℕ
image_need Thin version image room = thin_need (thin_meaning image) room
image_need Cache version image room = cache_need version (cache_meaning image) room
image_need Era version image room = era_need (era_meaning image) room

-- a sound image's dump is to be restored in this version, and there is room for it
pub record IsDumpOf (kind : Kind) (version : ℕ) (image base : List (List ℕ)) (before : Objects) : Type 0 where
  pub is : IsImage image
  pub sound : faults kind Whole image ≡ []
  pub text : before.source.left ≡ Some (image_text kind image)
  pub held : before.output.held ≡ Some base
  pub room : image_need kind version image (room_of (length base)) ≤ room_of (length base)

-- a sound pool's text with its shared leaves is to be restored, and there is room for it
pub record IsSharedDumpOf (image base : List (List ℕ)) (before : Objects) : Type 0 where
  pub is : IsImage image
  pub sound : faults Thin Whole image ≡ []
  pub text : before.source.left ≡ Some (text_of_shape (image_shape image))
  pub held : before.output.held ≡ Some base
  pub room : shape_need (image_shape image) (room_of (length base)) ≤ room_of (length base)

-- a check of this kind of metadata to its end was asked, and was answered with this status
abbrev pub IsCheckAnswered : Kind → List ℕ → Objects → Objects → ℕ → Type 0
IsCheckAnswered kind path = IsAnswered (terms_of (Some (Check kind Counts path)))

-- the same check was asked, in which leaks pass
abbrev pub IsPassingAnswered : Kind → List ℕ → Objects → Objects → ℕ → Type 0
IsPassingAnswered kind path = IsAnswered (terms_of (Some (PassingCheck kind path)))

-- the check of a pool or a cache was asked, which clears the flag where all that was reported passes
abbrev pub IsClearingAnswered : Flagged → Passing → List ℕ → Objects → Objects → ℕ → Type 0
IsClearingAnswered flagged passing path = IsAnswered (terms_of (Some (CheckAndClear flagged passing path)))

-- an image passes: it is clean, or, where leaks pass, each of its faults is a leak
abbrev pub IsPassed : Passing → Kind → List (List ℕ) → Type 0
IsPassed Nothing kind image = IsClean kind image
IsPassed Leaks kind image = OnlyLeaks kind image

-- status 0 says that the image that was read passes, status 1 that it doesn't, and where it passes and nothing fails the
-- status is 0, or memory was wanting
pub record TellsPassed (passing : Passing) (kind : Kind) (before after : Objects) (status : ℕ) (image : List (List ℕ)) : Type 0 where
  pub passed : status ≡ 0 → IsPassed passing kind image
  pub failed : status ≡ 1 → IsPassed passing kind image → ⊥
  pub found : IsPassed passing kind image → NoFaults before after → (status ≡ 0) ⊎ (status ≡ 7)

-- so it says whether the image is clean, where nothing passes
abbrev pub TellsClean : Kind → Objects → Objects → ℕ → List (List ℕ) → Type 0
TellsClean kind = TellsPassed Nothing kind

-- the image is sound up to the stage Whole, and no stored count is below its references
pub record LosesNothing (kind : Kind) (image : List (List ℕ)) : Type 0 where
  pub sound : faults kind Whole image ≡ []
  pub counts : AreCountsEnough (checked_of kind image) image

-- a pool or a cache means what another one does
abbrev pub MeansTheSame : Flagged → List (List ℕ) → List (List ℕ) → Type 0
MeansTheSame flags.Pool image other = thin_meaning image ≡ thin_meaning other
MeansTheSame flags.Cache image other = cache_meaning image ≡ cache_meaning other

-- the image passes and loses nothing, has the faults of the old one, means what that did, and its flag "needs check" isn't set
pub record IsCleared (flagged : Flagged) (passing : Passing) (old image : List (List ℕ)) : Type 0 where
  pub passed : IsPassed passing (kind_of flagged) image
  pub kept : LosesNothing (kind_of flagged) image
  pub same_faults : (until : Stage) → faults (kind_of flagged) until image ≡ faults (kind_of flagged) until old
  pub same : MeansTheSame flagged image old
  pub unset : needs_check flagged image ≡ false

-- the device that was checked holds such an image of what it held, and nothing of it is unsynced
abbrev pub HoldsCleared : Flagged → Passing → Objects → Objects → Type 0
HoldsCleared flagged passing before after =
    IfSome before.input.held (λ image. IsImage image →
    IfSome after.input.held (λ left. IsCleared flagged passing image left × HoldsSynced left after.input))

-- a crash at any moment leaves, by no chance, the old image, no valid superblock, or such an image
abbrev pub LeavesOldOrCleared : Flagged → Passing → Objects → Objects → Type 0
LeavesOldOrCleared flagged passing before after =
    IfSome before.input.held (λ image. IsImage image →
    LeavesOnly (IsOldNoneOrMade image (IsCleared flagged passing image)) before.input after.input)

-- block 0 is the old one, or, where the old image passes, the one with the flag cleared
abbrev pub IsOldOrPassedSuper : Flagged → Passing → List (List ℕ) → List ℕ → Type 0
IsOldOrPassedSuper flagged passing old block =
    (block ≡ block_at old 0) ⊎ (IsPassed passing (kind_of flagged) old × (block ≡ block_at (cleared flagged old) 0))

-- Whatever chance does, block 0 has had no other content than these two since the last good sync. So it is torn between them at
-- most: zeros, say, were never put there. All other blocks are the old ones
pub record IsTornAtMost (flagged : Flagged) (passing : Passing) (old image firsts : List (List ℕ)) : Type 0 where
  pub contents : AllByRecursion (IsOldOrPassedSuper flagged passing old) firsts
  pub others : drop 1 image ≡ drop 1 old

-- so it is after a crash at any moment, of an image or of any other list of blocks
abbrev pub LeavesTornAtMost : Flagged → Passing → Objects → Objects → Type 0
LeavesTornAtMost flagged passing before after =
    IfSome before.input.held (λ image. LeavesOnly (IsTornAtMost flagged passing image) before.input after.input)

-- a repair of one image onto another was asked, and was answered with this status
abbrev pub IsRepairAnswered : List ℕ → List ℕ → Objects → Objects → ℕ → Type 0
IsRepairAnswered from to = IsAnswered (terms_of (Some (Repair false from to)))

-- the output holds an image that is clean and means what is saved of the input, and nothing of it is unsynced
abbrev pub HoldsSalvage : Objects → Objects → Type 0
HoldsSalvage before after =
    IfSome before.input.held (λ image. IsImage image → IfSome before.output.held (λ base.
    IfSome after.output.held (λ repaired. IsCleanPool repaired (salvage image) × HoldsSynced repaired after.output)))

-- a crash at any moment leaves, by no chance, the old image, no valid superblock, or such an image
abbrev pub LeavesSalvage : Objects → Objects → Type 0
LeavesSalvage before after =
    IfSome before.input.held (λ image. IsImage image → IfSome before.output.held (λ base.
    LeavesOnly (IsOldNoneOrMade base (λ left. IsCleanPool left (salvage image))) before.output after.output))

-- a sound pool is to be repaired, onto an output that tells what it holds
pub record IsSoundRepair (image base : List (List ℕ)) (before : Objects) : Type 0 where
  pub is : IsImage image
  pub sound : faults Thin Whole image ≡ []
  pub read : before.input.held ≡ Some image
  pub held : before.output.held ≡ Some base
