-- What the flag is by block 0, and what the calls of the clearing leave.
use Rattle.std.proofs.Common.{◌≡◌, ℕ, true, false, List, [], ◌∷◌, length, set, refl, sym, ◌∙◌, ap, arith, Option, Some, IfSome, Result, Ok, Err}
use Rattle.std.specs.Prelude.{OnOk}
use Rattle.std.specs.List.{slice_get}
use Rattle.std.specs.Option.{unwrap_or}
use Rattle.std.proofs.lemmas.Bool.{true≢false}
use Rattle.std.proofs.lemmas.Option.{IfSome_then, same_Some}
use Rattle.pd_kinds.specs.Objects.{History, DeviceState}
use Rattle.pd_kinds.specs.Crash.{LeavesOnly, HoldsSynced}
use Rattle.pd_kinds.proofs.CrashLemmas.{and_then, stays, Image}
use Rattle.pd_kinds.specs.declared.kind.Flagged.{Flagged}
use Rattle.pd_answers.specs.Flag.{cleared, cleared_super, is_flag_set, needs_check}
use Rattle.pd_image.specs.Device.{OnlyReads}
use Rattle.pd_image.proofs.CrashLemmas.{at_some}
use Rattle.pd_draft.specs.Closed.{IsReplaced}
use Rattle.pd_draft.proofs.DraftLemmas.{replaced_here}

module _ (flagged : Flagged) where
  -- the flag of an image is that of its block 0
  pub flag_of : (image : Image) (block : List ℕ) → slice_get image 0 ≡ Some block → needs_check flagged image ≡ is_flag_set flagged block
  unfolding needs_check
  flag_of image block first = ap (λ (b : Option (List ℕ)). is_flag_set flagged (unwrap_or b [])) first

  -- where it isn't set, all stays
  cleared_same : (image : Image) → needs_check flagged image ≡ false → cleared flagged image ≡ image
  unfolding cleared
  cleared_same [] unset = refl
  cleared_same (block ∷ blocks) unset = rw unset refl

  -- where it is set, block 0 is replaced
  cleared_set : (image : Image) (block : List ℕ) → slice_get image 0 ≡ Some block → needs_check flagged image ≡ true → cleared flagged image ≡ set image 0 (cleared_super flagged block)
  unfolding cleared
  cleared_set [] block first is_set = absurd cc
  cleared_set (block' ∷ blocks) block first is_set = rw is_set (ap (λ (b : List ℕ). cleared_super flagged b ∷ blocks) (same_Some block' block first))

  -- a device that was only read still holds its image, with nothing unsynced
  still_synced : (image : Image) (old new : DeviceState) → OnlyReads old new → HoldsSynced image old → HoldsSynced image new
  still_synced image old new only synced = record {
    held = only.held ∙ synced.held;
    unsynced = ap (λ (h : History). h.unsynced) only.history ∙ synced.unsynced;
    firsts = ap (λ (h : History). h.firsts) only.history ∙ synced.firsts;
  }

  -- no block is there
  pub cleared_none : (image : Image) → length image ≡ 0 → cleared flagged image ≡ image
  unfolding cleared
  cleared_none [] none = refl
  cleared_none (block ∷ blocks) none = absurd (omega arith)

  -- a read leaves what was there
  pub read_crash : (image : Image) (old new : DeviceState) → OnlyReads old new → HoldsSynced image old → LeavesOnly (IsReplaced image (cleared flagged image)) old new
  read_crash image old new only synced = stays only.held only.history (replaced_here image (cleared flagged image) old synced)

  module _ (old read : DeviceState) (block : List ℕ) (only : OnlyReads old read) (content : IfSome old.held (λ image. slice_get image 0 ≡ Some block)) where
    -- block 0 of what is held
    first_of : (image : Image) → old.held ≡ Some image → slice_get image 0 ≡ Some block
    first_of image held = at_some old.held (λ (i : Image). slice_get i 0 ≡ Some block) image held content

    -- the flag isn't set, and nothing was written
    pub unset_done : is_flag_set flagged block ≡ false → (image : Image) → HoldsSynced image old → HoldsSynced (cleared flagged image) read
    unset_done unset image synced =
        rw (cleared_same image (flag_of image block (first_of image synced.held) ∙ unset)) (still_synced image old read only synced)

    module _ (new : DeviceState) (is_set : is_flag_set flagged block ≡ true) where
      -- the image with the flag cleared is the one with that block 0
      is_cleared : (image : Image) → old.held ≡ Some image → cleared flagged image ≡ set image 0 (cleared_super flagged block)
      is_cleared image held = cleared_set image block (first_of image held) (flag_of image block (first_of image held) ∙ is_set)

      -- block 0 was written
      pub set_done : {T E : Type 0} (result : Result T E) → OnOk result (IfSome read.held (λ image. HoldsSynced (set image 0 (cleared_super flagged block)) new))
          → OnOk result ((image : Image) → HoldsSynced image old → HoldsSynced (cleared flagged image) new)
      set_done (Err fault) done = tt
      set_done (Ok x) done = λ image synced.
          rw (is_cleared image synced.held)
          (at_some read.held (λ (i : Image). HoldsSynced (set i 0 (cleared_super flagged block)) new) image (only.held ∙ synced.held) done)

      pub set_crash : ((image : Image) → HoldsSynced image read → LeavesOnly (IsReplaced image (set image 0 (cleared_super flagged block))) read new)
          → (image : Image) → HoldsSynced image old → LeavesOnly (IsReplaced image (cleared flagged image)) old new
      set_crash crash image synced =
          and_then (read_crash image old read only synced)
          (rw (is_cleared image synced.held) (crash image (still_synced image old read only synced)))

      -- the flag of what is held is set
      pub not_unset : (P : Image → Type 0) → IfSome old.held (λ image. needs_check flagged image ≡ false → P image)
      not_unset P = IfSome_then old.held content (λ image first unset. absurd (true≢false (sym is_set ∙ sym (flag_of image block first) ∙ unset)))
