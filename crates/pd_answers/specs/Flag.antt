-- Trusted base.
-- What the flag "needs check" of a pool or a cache is, and what clearing it leaves of a device.
use Rattle.std.specs.Prelude.{◌≡◌, ◌≢◌, ◌⊎◌, ℕ, ◌-◌, ◌*◌, ◌^◌, Bool, true, false, ◌==◌, if◌then◌else◌, List, [], ◌∷◌, drop, IfSome}
use Rattle.std.specs.Int.{bit_at}
use Rattle.std.specs.List.{AllByRecursion}
use Rattle.pd_kinds.specs.declared.kind.Flagged.{Flagged}
use Rattle.pd_kinds.specs.declared.kind.Flagged.TheVariants.{Pool, Cache}
use Rattle.pd_kinds.specs.declared.kind.Passing.{Passing}
use Rattle.pd_kinds.specs.Field.{le, put, sealed}
use Rattle.pd_kinds.specs.Flagged.{kind_of}
use Rattle.pd_kinds.specs.Super.{salt_of}
use Rattle.pd_kinds.specs.Graph.{block_at}
use Rattle.pd_kinds.specs.Rule.{Reported, passes}
use Rattle.pd_kinds.specs.Objects.{DeviceState}
use Rattle.pd_kinds.specs.Crash.{LeavesOnly, HasNoSuper, Chance, HoldsSynced, IsUntouched, StillTells}

-- which bit of the flags it is
abbrev pub flag_bit : Flagged → ℕ
flag_bit Pool = 0
flag_bit Cache = 1

-- the flags are the four bytes at offset 4 of a superblock
abbrev pub is_flag_set : Flagged → List ℕ → Bool
is_flag_set flagged block = bit_at (le block 4 4) (flag_bit flagged) == 1

unfoldable pub needs_check : Flagged → List (List ℕ) → Bool
needs_check flagged image = is_flag_set flagged (block_at image 0)

-- the flags without it
abbrev pub flags_without : Flagged → ℕ → ℕ
flags_without flagged flags = flags - bit_at flags (flag_bit flagged) * 2 ^ flag_bit flagged

-- the superblock with the flag cleared, and sealed again
unfoldable pub cleared_super : Flagged → List ℕ → List ℕ
cleared_super flagged block = sealed (put block 4 4 (flags_without flagged (le block 4 4))) (salt_of (kind_of flagged))

-- an image with the flag cleared: its other blocks stay, and where the flag isn't set all of it stays
unfoldable pub cleared : Flagged → List (List ℕ) → List (List ℕ)
cleared flagged [] = []
cleared flagged (block ∷ blocks) =
    if needs_check flagged (block ∷ blocks) then cleared_super flagged block ∷ blocks else block ∷ blocks

-- Block 0 is the old one, or, where all that was reported passes, the one with the flag cleared
abbrev pub IsOldOrClearedSuper : Flagged → Bool → List (List ℕ) → List ℕ → Type 0
IsOldOrClearedSuper flagged passed old block = (block ≡ block_at old 0) ⊎ ((passed ≡ true) × (block ≡ block_at (cleared flagged old) 0))

-- What a crash leaves, where block 0 has had these contents since the last good sync. Each of them is the old block 0 or the cleared
-- one, so what is left where a write is cut is torn between these two: nothing else is ever put there. All other blocks are the old
-- ones. By no chance, the image is the old one, has the flag cleared where all that was reported passes, or is the old one with a
-- block 0 that is no valid superblock
pub record IsOldOrCleared (flagged : Flagged) (passed : Bool) (old image firsts : List (List ℕ)) : Type 0 where
  pub contents : AllByRecursion (IsOldOrClearedSuper flagged passed old) firsts
  pub others : drop 1 image ≡ drop 1 old
  pub outcome : Chance image firsts → (image ≡ old) ⊎ (((passed ≡ true) × (image ≡ cleared flagged old)) ⊎ (HasNoSuper image × (drop 1 image ≡ drop 1 old)))

-- the device of a check that clears the flag where all that was reported passes
pub record LeavesCleared (flagged : Flagged) (passing : Passing) (report : Reported) (status : ℕ) (old new : DeviceState) : Type 0 where
  -- under every status, it tells what it holds, where it told that before
  pub told : StillTells old new
  -- under every status, a crash at any moment of the call
  pub crash : IfSome old.held (λ image. LeavesOnly (IsOldOrCleared flagged (passes passing report) image) old new)
  -- at status 0 a crash from then on leaves the flag cleared
  pub done : status ≡ 0 → IfSome old.held (λ image. HoldsSynced (cleared flagged image) new)
  -- where the flag isn't set, or something was reported that doesn't pass, nothing is written
  pub unset : IfSome old.held (λ image. needs_check flagged image ≡ false → IsUntouched old new)
  pub reported : passes passing report ≡ false → IsUntouched old new
  -- any other status leaves the device, but where it failed itself
  pub kept : status ≢ 0 → new.faults ≡ old.faults → IsUntouched old new
