-- Trusted base.
-- What a writeback leaves, where all three devices tell what they hold.
use Rattle.std.specs.Prelude.{◌≡◌, ◌⊎◌, ℕ, List, [], Some, IfSome}
use Rattle.pd_kinds.specs.declared.kind.Kind.TheVariants.{Cache}
use Rattle.pd_kinds.specs.declared.kind.Stage.TheVariants.{Whole}
use Rattle.pd_kinds.specs.Crash.{Chance, HasNoSuper, HoldsSynced, IsUntouched, LeavesOnly, may_leave, moment}
use Rattle.pd_kinds.specs.Image.{IsImage}
use Rattle.pd_kinds.specs.Meaning.{cache_meaning}
use Rattle.pd_kinds.specs.Stages.{IsClean, faults}
use Rattle.pd_answers.specs.Terms.{Objects, IsAnswered}
use Rattle.pd_answers.specs.Writebacks.{view, AllTold}
use Rattle.pd_answers.specs.Promises.{terms_of}
use Rattle.pd_answers.specs.declared.request.Request.TheVariants.{Writeback}
use Rattle.pd_laws_changed.specs.Premises.{AgreeElsewhere, without_dirt}

-- a writeback of a cache was asked, by the paths of its metadata, its fast device and its origin, and was answered with this status
abbrev pub IsWritebackAnswered : List ℕ → List ℕ → List ℕ → Objects → Objects → ℕ → Type 0
IsWritebackAnswered metadata fast origin = IsAnswered (terms_of (Some (Writeback metadata fast origin)))

-- the origin reads alone what the cached device read, where the blocks that a writeback doesn't copy are the same on both devices
abbrev pub ReadsAlone : List (List ℕ) → List (List ℕ) → List (List ℕ) → List (List ℕ) → Type 0
ReadsAlone image origin fast left = AgreeElsewhere image origin fast → left ≡ view image origin fast

-- the cache that a writeback leaves of another one: nothing in it is dirty, it is as sound as that was, and what is read of it, and of the
-- origin alone, is what was read
pub record IsWrittenBack (image origin fast metadata left : List (List ℕ)) : Type 0 where
  pub sound : faults Cache Whole metadata ≡ []
  pub clean : IsClean Cache image → IsClean Cache metadata
  pub meaning : cache_meaning metadata ≡ without_dirt (cache_meaning image)
  pub same : view metadata left fast ≡ view image origin fast
  pub alone : ReadsAlone image origin fast left

-- the devices hold such a cache, and nothing of it is unsynced
abbrev pub HoldsWrittenBack : Objects → Objects → Type 0
HoldsWrittenBack before after =
    AllTold before (λ image origin fast. IsImage image →
    IfSome after.input.held (λ metadata. IfSome after.output.held (λ left.
    IsWrittenBack image origin fast metadata left × HoldsSynced metadata after.input × HoldsSynced left after.output)))

-- what a crash at any moment of a writeback leaves
pub record KeepsTheView (image origin fast : List (List ℕ)) (before after : Objects) : Type 0 where
  -- the origin under the old metadata reads the same
  pub origin_left : LeavesOnly (λ left firsts. view image left fast ≡ view image origin fast) before.output after.output
  -- the metadata, by no chance, has no valid superblock, or reads the same over any origin and fast device
  pub metadata_left : LeavesOnly (λ left firsts. Chance left firsts → HasNoSuper left ⊎ ((other : List (List ℕ)) → view left other fast ≡ view image other fast))
      before.input after.input
  -- unless the metadata wasn't touched, the origin reads alone what the cached device read, with nothing unsynced
  pub order : IsUntouched before.input after.input
      ⊎ IfSome after.output.held (λ left. ReadsAlone image origin fast left × HoldsSynced left after.output)
  -- a crash of both at the call's end leaves, by no chance, a cached device that reads the same, or no valid superblock, and then an
  -- origin that reads so alone
  pub together : (metadata firsts left others : List (List ℕ)) → may_leave after.input (moment after.input) metadata firsts → Chance metadata firsts
      → may_leave after.output (moment after.output) left others
      → (view metadata left fast ≡ view image origin fast) ⊎ (HasNoSuper metadata × ReadsAlone image origin fast left)
  -- it reads so alone where neither it nor the fast device failed, or it was left alone
  pub origin_kept : after.output.faults ≡ before.output.faults → after.third.faults ≡ before.third.faults
      → IsUntouched before.output after.output ⊎ IfSome after.output.held (λ left. ReadsAlone image origin fast left × HoldsSynced left after.output)
  -- metadata that didn't fail was left alone, or reads the same over any origin and fast device, with nothing unsynced
  pub metadata_kept : after.input.faults ≡ before.input.faults
      → IsUntouched before.input after.input
      ⊎ IfSome after.input.held (λ left. ((other : List (List ℕ)) → view left other fast ≡ view image other fast) × HoldsSynced left after.input)

abbrev pub LeavesTheView : Objects → Objects → Type 0
LeavesTheView before after = AllTold before (λ image origin fast. IsImage image → KeepsTheView image origin fast before after)
