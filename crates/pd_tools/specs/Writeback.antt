-- What the copying and the marking of a writeback do to its three devices: the metadata, the origin and the fast device.
use Rattle.std.specs.Prelude.{◌≡◌, ◌⊎◌, ℕ, List, [], Some, Result, IfSome, OnOk, MatchResult}
use Rattle.std.specs.List.Sorted.{IsPermutation}
use Rattle.pd_kinds.specs.declared.kind.Kind.TheVariants.{Cache}
use Rattle.pd_kinds.specs.declared.kind.Stage.TheVariants.{Whole}
use Rattle.pd_kinds.specs.Objects.{Rose}
use Rattle.pd_kinds.specs.Crash.{HoldsSynced, IsOldNoneOrMade, IsUntouched, LeavesOnly, StillTells}
use Rattle.pd_kinds.specs.Stages.{faults}
use Rattle.pd_answers.specs.Writebacks.{CachedBlock, copied, settled}
use Rattle.pd_image.specs.Device.{KeepsPlace, OnlyReads}
use Rattle.pd_writeback.specs.declared.plan.Plan.{Plan}
use Rattle.pd_writeback.specs.Copied.{IsLeftKept}
use Rattle.pd_writeback.specs.Plan.{IsPlanOf, plan_each, plan_hot}
use Rattle.pd_tools.specs.Opened.{Devices}

-- the origin has all that the plan copies, with nothing unsynced
abbrev pub HasCopied : Plan → Devices → Devices → Type 0
HasCopied plan old new = (image : List (List ℕ)) → faults Cache Whole image ≡ [] → IsPlanOf image plan
    → IfSome old.third.held (λ fast. (base : List (List ℕ)) → HoldsSynced base old.output → HoldsSynced (copied image base fast) new.output)

-- and the metadata has nothing dirty
abbrev pub HasMarked : Plan → Devices → Devices → Type 0
HasMarked plan old new = (image : List (List ℕ)) → IsPlanOf image plan → HoldsSynced image old.input → HoldsSynced (settled image) new.input

-- what the copying and the marking of a plan leave, whatever their result
pub record IsWritten {T E : Type 0} (plan : Plan) (result : Result T E) (old new : Devices) : Type 0 where
  pub origin_crash : (hot : List CachedBlock) (base : List (List ℕ)) → IsPermutation hot (plan_hot plan) → HoldsSynced base old.output
      → LeavesOnly (IsLeftKept (plan_each plan) hot base) old.output new.output
  pub meta_crash : (image : List (List ℕ)) → IsPlanOf image plan → HoldsSynced image old.input
      → LeavesOnly (IsOldNoneOrMade image (λ made. made ≡ settled image)) old.input new.input
  pub origin_told : StillTells old.output new.output
  pub meta_told : StillTells old.input new.input
  pub order : IsUntouched old.input new.input ⊎ HasCopied plan old new
  -- all was copied, or a device failed before; and all was marked, nothing was, or the device failed
  pub copies : HasCopied plan old new ⊎ (Rose old.output.faults new.output.faults ⊎ Rose old.third.faults new.third.faults)
  pub marks : IsUntouched old.input new.input ⊎ (HasMarked plan old new ⊎ Rose old.input.faults new.input.faults)
  pub unchanged : (image : List (List ℕ)) → IsPlanOf image plan → old.input.held ≡ Some image → settled image ≡ image → IsUntouched old.input new.input
  pub has_copied : OnOk result (HasCopied plan old new)
  pub marked : OnOk result (HasMarked plan old new)
  pub cold : plan_hot plan ≡ [] → IsUntouched old.input new.input × IsUntouched old.output new.output
  pub meta_place : KeepsPlace old.input new.input
  pub origin_place : KeepsPlace old.output new.output
  pub fast_kept : OnlyReads old.third new.third
  pub faults : MatchResult result (λ done. Unit {0})
      (λ failed. Rose old.input.faults new.input.faults ⊎ (Rose old.output.faults new.output.faults ⊎ Rose old.third.faults new.third.faults))
