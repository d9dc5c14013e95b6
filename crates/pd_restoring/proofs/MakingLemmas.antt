-- What the writing of what is held in memory comes to, from the closing of block 0 on.
use Rattle.std.proofs.Common.{◌≡◌, ℕ, suc, ◌+◌, ◌≤◌, List, [], ◌∷◌, ◌++◌, length, take, drop, set, refl, sym, ◌∙◌, ap, arith, ◌⊎◌, inl, inr, ⊎_elim, Option, Some, None, IfSome, subst, Result, Ok, Err}
use Rattle.std.proofs.lemmas.List.{drop-set-lt, length-set}
use Rattle.std.proofs.lemmas.Option.{IfSome_then, same_Some}
use Rattle.std.specs.Prelude.{is_some}
use Rattle.pd_kinds.proofs.CrashLemmas.{Image, and_then, weaken, left_held, still_tells}
use Rattle.pd_kinds.specs.Crash.{HasNoSuper, HoldsOldOrNone, HoldsSynced, IsOldNoneOrMade, IsOldOrNone, LeavesOnly}
use Rattle.pd_kinds.specs.Field.{zeros}
use Rattle.pd_kinds.specs.Objects.{DeviceState}
use Rattle.pd_kinds.specs.Image.{room_of}
use Rattle.pd_laid.specs.Laid.{Laid, IsLaid, laid_blocks, laid_number, written_from}
use Rattle.pd_laid.proofs.LaidLemmas.{length-laid_blocks, laid_over}
use Rattle.pd_image.proofs.CrashLemmas.{at_some}
use Rattle.pd_draft.proofs.DraftLemmas.{placed_between, zeros_none}
use Rattle.pd_draft.specs.Closed.{StaysClosed}
use Rattle.pd_restoring.specs.Restored.{made_of, LaysOver, Lays}
use Rattle.pd_restoring.specs.declared.fault.MadeFault.{MadeFault}
use Rattle.pd_restoring.specs.Made.{Content, IsMade, MakesContent, ending_of, failed}
use Rattle.pd_restoring.specs.declared.fault.MadeFault.TheVariants as m

-- What was written is laid.

-- the first block of an image is another one
first_set : (image rest : Image) (block : List ℕ) → 1 ≤ length image → set (take 1 image ++ rest) 0 block ≡ block ∷ rest
first_set [] rest block some = absurd (omega arith)
first_set (x ∷ image) rest block some = refl

module _ (laid : Laid) where
  abbrev behind : Image
  behind = written_from 1 laid.blocks

  blocks_are : laid_blocks laid ≡ laid.super_block ∷ behind
  unfolding laid_blocks
  blocks_are = refl

  made_is : (image : Image) → laid_number laid ≤ length image → made_of laid image ≡ laid_blocks laid ++ drop (laid_number laid) image
  unfolding made_of
  made_is image there =
      let size : suc (length behind) ≡ laid_number laid = sym (ap (λ (blocks : Image). length blocks) blocks_are) ∙ length-laid_blocks laid in
      let end : 1 + length behind ≡ laid_number laid = omega arith in
      ap (λ (i : Image). set i 0 laid.super_block) (placed_between image 1 behind (omega arith))
      ∙ (first_set image (behind ++ drop (1 + length behind) image) laid.super_block (omega arith)
      ∙ (ap (λ (n : ℕ). laid.super_block ∷ (behind ++ drop n image)) end
      ∙ ap (λ (blocks : Image). blocks ++ drop (laid_number laid) image) (sym blocks_are)))

  -- over the image that is there with another first block
  pub made_of_closed : (image : Image) (block : List ℕ) → laid_number laid ≤ length image → IsLaid laid image (made_of laid (set image 0 block))
  made_of_closed image block there =
      let same = length-set image 0 block in
      let rest = drop-set-lt (laid_number laid) image 0 block (omega arith) in
      rw (made_is (set image 0 block) (omega arith), rest) (laid_over laid image (omega arith))

-- A device whose block 0 was closed, and what was laid on it then.

pub where_told : {X : Type 0} (left : Option X) (P : X → Type 0) → ((t : X) → left ≡ Some t → P t) → IfSome left P
where_told None P told = tt
where_told (Some text) P told = told text refl

-- what is said of an old image and no superblock
abbrev pub older : {image : Image} {Made : Image → Type 0} {a b : DeviceState} → LeavesOnly (IsOldOrNone image) a b → LeavesOnly (IsOldNoneOrMade image Made) a b
older first = weaken first (λ left firsts outcome chance. ⊎_elim (λ old. inl old) (λ none. inr (inl none)) (outcome chance))

module _ (old mid new : DeviceState) (first : (image : Image) → HoldsSynced image old → LeavesOnly (IsOldOrNone image) old mid)
    (content : IfSome old.held (λ image. mid.held ≡ Some (set image 0 zeros))) (measured : IfSome old.held (λ image. length image ≡ old.blocks)) where
  -- block 0 stayed closed
  pub closed_crash : StaysClosed mid new → (Made : Image → Image → Type 0) → (image : Image) → HoldsSynced image old → LeavesOnly (IsOldNoneOrMade image (Made image)) old new
  closed_crash stays Made image synced =
      and_then (older (first image synced)) (weaken stays.crash (λ left firsts zeroed chance. inr (inl (zeros_none left firsts zeroed))))

  pub closed_kept : StaysClosed mid new → HoldsOldOrNone old new
  closed_kept stays =
      IfSome_then old.held measured (λ image number.
      where_told new.held (λ now. (now ≡ image) ⊎ HasNoSuper now) (λ now is. inr (zeros_none now new.history.firsts (stays.crash.now now new.history.firsts (left_held new now is)))))

  closed_at : (image : Image) → old.held ≡ Some image → mid.held ≡ Some (set image 0 zeros)
  closed_at image held = at_some old.held (λ (i : Image). mid.held ≡ Some (set i 0 zeros)) image held content

  module _ (laid : Laid) (fits : laid_number laid ≤ old.blocks) where
    -- what is made is laid
    made_laid : (image made : Image) → old.held ≡ Some image → made ≡ made_of laid (set image 0 zeros) → IsLaid laid image made
    made_laid image made held is =
        let number : length image ≡ old.blocks = at_some old.held (λ (i : Image). length i ≡ old.blocks) image held measured in
        rw is (made_of_closed laid image zeros (omega (arith, number)))

    pub laid_crash : LaysOver laid mid new → (image : Image) → HoldsSynced image old → LeavesOnly (IsOldNoneOrMade image (λ now. IsLaid laid image now)) old new
    laid_crash crash image synced =
        and_then (older (first image synced)) (weaken (crash (set image 0 zeros) (closed_at image synced.held))
        (λ left firsts outcome chance. ⊎_elim (λ none. inr (inl none)) (λ made. inr (inr (made_laid image left synced.held made))) (outcome chance)))

    pub laid_synced : ((image : Image) → mid.held ≡ Some image → HoldsSynced (made_of laid image) new)
        → IfSome old.held (λ image. IfSome new.held (λ now. IsLaid laid image now × HoldsSynced now new))
    laid_synced done = where_told old.held (λ image. IfSome new.held (λ now. IsLaid laid image now × HoldsSynced now new)) (λ image held.
        let s = done (set image 0 zeros) (closed_at image held) in
        where_told new.held (λ now. IsLaid laid image now × HoldsSynced now new) (λ now is.
        let same : now ≡ made_of laid (set image 0 zeros) = same_Some now (made_of laid (set image 0 zeros)) (sym is ∙ s.held) in (
          made_laid image now held same,
          subst (λ (j : Image). HoldsSynced j new) (sym same) s,
        )))

-- there is room for the content
module _ (content : Content) (old mid : DeviceState) (fits : content.need (room_of old.blocks) ≤ room_of old.blocks)
    (first : (image : Image) → HoldsSynced image old → LeavesOnly (IsOldOrNone image) old mid) where
  abbrev room : ℕ
  room = room_of old.blocks

  -- block 0 wasn't closed
  pub never_closed : is_some mid.held ≡ is_some old.held → IsMade content failed old mid
  never_closed told = record {
    answer = tt;
    crash = λ image synced. older (first image synced);
    made = λ none. absurd none;
    told = still_tells old mid told;
    kept = λ none. absurd none;
    untouched = λ small. absurd (omega arith);
    early = λ none. absurd none;
  }

  -- it was, and then the content was written
  module _ (new : DeviceState) (enough : laid_number (content.laid room) ≤ room) (told : is_some new.held ≡ is_some old.held)
      (zeroed : IfSome old.held (λ image. mid.held ≡ Some (set image 0 zeros))) (measured : IfSome old.held (λ image. length image ≡ old.blocks)) where
    laid_or_none : LaysOver (content.laid room) mid new → (image : Image) → HoldsSynced image old → LeavesOnly (IsOldNoneOrMade image (MakesContent content room image)) old new
    laid_or_none over image synced =
        weaken (laid_crash old mid new first zeroed measured (content.laid room) (omega arith) over image synced)
        (λ left firsts is chance. ⊎_elim (λ same. inl same) (λ other. inr (⊎_elim (λ none. inl none) (λ laid. inr (fits, laid)) other)) (is chance))

    pub laid_made : content.Lawful → (result : Result (Unit {0}) MadeFault) → Lays (content.laid room) result mid new → IsMade content (ending_of result) old new
    laid_made lawful (Ok _) lays = record {
      answer = (lawful, fits);
      crash = laid_or_none lays.0;
      made = λ _. laid_synced old mid new first zeroed measured (content.laid room) (omega arith) lays.1;
      told = still_tells old new told;
      kept = λ none. absurd none;
      untouched = λ small. absurd (omega arith);
      early = λ none. absurd none;
    }
    laid_made lawful (Err m.Memory) stays = record {
      answer = tt;
      crash = closed_crash old mid new first zeroed measured stays (MakesContent content room);
      made = λ none. absurd none;
      told = still_tells old new told;
      kept = λ _. closed_kept old mid new first zeroed measured stays;
      untouched = λ small. absurd (omega arith);
      early = λ none. absurd none;
    }
    laid_made lawful (Err m.Device) lays = record {
      answer = tt;
      crash = ⊎_elim (λ stays. closed_crash old mid new first zeroed measured stays (MakesContent content room)) laid_or_none lays;
      made = λ none. absurd none;
      told = still_tells old new told;
      kept = λ none. absurd none;
      untouched = λ small. absurd (omega arith);
      early = λ none. absurd none;
    }
    laid_made lawful (Err (m.NoRoom need blocks)) lays = absurd lays
