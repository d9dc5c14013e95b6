-- A restore, call by call.
use Rattle.std.proofs.Common.{◌≡◌, inl, inr, ⊎_elim, ℕ, ◌+◌, ◌<◌, List, [], ◌∷◌, ◌++◌, map, take, length, get_or, refl, add-one, set, Option, Some, None, Result, Ok, Err}
use Rattle.std.specs.Prelude.{IfSome, OnOk}
use Rattle.std.proofs.Math.Seq.{take-suc}
use Rattle.std.proofs.lemmas.List.{map-append}
use Rattle.pd_kinds.specs.declared.block.Block.{Block}
use Rattle.pd_kinds.specs.Objects.{DeviceState}
use Rattle.pd_kinds.specs.Crash.{LeavesOnly, HoldsSynced, IsNoneOrNew, IsOldOrNone, IsOutcome}
use Rattle.pd_kinds.proofs.CrashLemmas.{and_then, weaken, Image}
use Rattle.pd_image.proofs.CrashLemmas.{at_some}
use Rattle.pd_draft.specs.Closed.{placed, StaysClosed}
use Rattle.pd_draft.proofs.DraftLemmas.{zeros_none}

-- puts leave no superblock
pub none_yet : (made : Image) {old new : DeviceState} → StaysClosed old new → LeavesOnly (IsNoneOrNew made) old new
none_yet made stays = weaken stays.crash (λ image firsts zeroed chance. inl (zeros_none image firsts zeroed))

-- then the superblock
pub then_super : (made : Image) {a b c : DeviceState} → StaysClosed a b → LeavesOnly (IsNoneOrNew made) b c → LeavesOnly (IsNoneOrNew made) a c
then_super made stays last = and_then (none_yet made stays) last

-- the clearing alone
pub cleared_only : (image made : Image) {a b : DeviceState} → LeavesOnly (IsOldOrNone image) a b → LeavesOnly (IsOutcome image made) a b
cleared_only image made first = weaken first (λ left firsts to chance. ⊎_elim (λ old. inl old) (λ none. inr (inl none)) (to chance))

-- the clearing and the rest
pub cleared_then : (image made : Image) {a b c : DeviceState} → LeavesOnly (IsOldOrNone image) a b → LeavesOnly (IsNoneOrNew made) b c → LeavesOnly (IsOutcome image made) a c
cleared_then image made first last = and_then (cleared_only image made first) (weaken last (λ left firsts to chance. inr (to chance)))

-- the bytes of one block more
pub bytes_more : (blocks : List Block) (i : ℕ) (d : Block) → i < length blocks
    → map (λ (block : Block). block.0) (take (i + 1) blocks) ≡ map (λ (block : Block). block.0) (take i blocks) ++ ((get_or blocks i d).0 ∷ [])
bytes_more blocks i d within = rw (add-one, take-suc blocks i d within, map-append (λ (block : Block). block.0) (take i blocks) (get_or blocks i d ∷ [])) refl

-- what a commit leaves, of what there was before the puts
pub done_since : {T E : Type 0} (result : Result T E) (was mid : Option Image) (blocks : Image) (super_block : List ℕ) (new : DeviceState)
    → IfSome was (λ image. mid ≡ Some (placed image 1 blocks)) → OnOk result (IfSome mid (λ image. HoldsSynced (set image 0 super_block) new))
    → OnOk result (IfSome was (λ image. HoldsSynced (set (placed image 1 blocks) 0 super_block) new))
done_since (Ok x) None mid blocks super_block new content done = tt
done_since (Ok x) (Some image) mid blocks super_block new content done =
    at_some mid (λ (i : Image). HoldsSynced (set i 0 super_block) new) (placed image 1 blocks) content done
done_since (Err e) was mid blocks super_block new content done = tt
