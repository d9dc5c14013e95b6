-- An output that has no superblock at a crash.
-- What a draft wrote: so many blocks, one after another.
-- What a crash leaves where block 0 alone is replaced, in one step.
use Rattle.std.specs.Prelude.{◌≡◌, ℕ, List, Some, is_some, ◌+◌, [], ◌∷◌, length, IfSome, slice_set, ◌⊎◌}
use Rattle.std.specs.List.{slice_get, AllByRecursion}
use Rattle.pd_kinds.specs.Field.{zeros}
use Rattle.pd_kinds.specs.Objects.{DeviceState}
use Rattle.pd_kinds.specs.Crash.{LeavesNow, LeavesOnly, HasNoSuper, Chance}
use Rattle.pd_kinds.specs.Graph.{block_at}
use Rattle.pd_image.specs.Device.{KeepsPlace, MayChange}

-- block 0 of the image is zeros
abbrev pub HasZeros : List (List ℕ) → List (List ℕ) → Type 0
HasZeros image firsts = slice_get image 0 ≡ Some zeros

-- where the device tells what it holds, a crash now leaves zeros in block 0
abbrev pub IsClosed : DeviceState → Type 0
IsClosed device = LeavesNow HasZeros device

-- calls of a draft: a crash since old leaves zeros in block 0
pub record StaysClosed (old new : DeviceState) : Type 0 where
  pub crash : LeavesOnly HasZeros old new
  pub told : is_some new.held ≡ is_some old.held
  pub kept : KeepsPlace old new

-- the image with the blocks one after another from a place on
unfoldable pub placed : List (List ℕ) → ℕ → List (List ℕ) → List (List ℕ)
placed image place [] = image
placed image place (block ∷ blocks) = placed (slice_set image place block) (place + 1) blocks

-- where a draft stands: its device, and the place of the next block
pub record DraftState : Type 0 where
  pub device : DeviceState
  pub place : ℕ

-- these blocks were put one after another, and all else stays; a crash since leaves zeros in block 0
pub record Wrote (blocks : List (List ℕ)) (old new : DraftState) : Type 0 where
  pub moved : new.place ≡ old.place + length blocks
  pub content : IfSome old.device.held (λ image. new.device.held ≡ Some (placed image old.place blocks))
  pub stays : StaysClosed old.device new.device
  pub faults : new.device.faults ≡ old.device.faults

-- block 0 is that of the old image, or of the new one
abbrev pub IsOldOrNewFirst : List (List ℕ) → List (List ℕ) → List ℕ → Type 0
IsOldOrNewFirst old new block = (block ≡ block_at old 0) ⊎ (block ≡ block_at new 0)

-- Each content that block 0 has had since the last good sync is the old one or the new one, and all other blocks stay. So, by no chance,
-- there is the old image, the new one, or the old one with no valid superblock: one that is torn between the two
pub record IsReplaced (old new image firsts : List (List ℕ)) : Type 0 where
  pub contents : AllByRecursion (IsOldOrNewFirst old new) firsts
  pub others : MayChange 0 old image
  pub outcome : Chance image firsts → (image ≡ old) ⊎ ((image ≡ new) ⊎ (HasNoSuper image × MayChange 0 old image))
