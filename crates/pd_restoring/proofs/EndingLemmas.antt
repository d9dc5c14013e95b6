-- What the writing of what is held in memory comes to.
use Rattle.std.proofs.Common.{◌≡◌, inl, inr, ⊎_elim, ℕ, ◌<◌, ◌≤◌, Bool, List, IfSome, Result, Ok, Err, refl, sym, ◌∙◌, ap, subst, arith}
use Rattle.std.proofs.lemmas.Option.{IfSome_then}
use Rattle.pd_kinds.specs.Crash.{HoldsSynced, IsOldNoneOrMade, LeavesOnly}
use Rattle.pd_kinds.specs.Image.{room_of}
use Rattle.pd_kinds.specs.Objects.{DeviceState, SourceState}
use Rattle.pd_kinds.proofs.CrashLemmas.{still_tells, weaken, Image}
use Rattle.pd_grammar.specs.Spelling.{Verdict, accepted}
use Rattle.pd_laid.specs.Laid.{IsLaid, Laid, Makes}
use Rattle.pd_texts.specs.declared.reader.TextFault.{TextFault}
use Rattle.pd_restoring.specs.declared.fault.RestoreFault.{RestoreFault}
use Rattle.pd_restoring.specs.Made.{AnswersEnding, Content, Ending, IsDone, IsMade, MakesContent, done, failed, lacking, short, unbegun}
use Rattle.pd_restoring.specs.Restored.{AnswersFault, IsRestored}
use Rattle.pd_restoring.proofs.RestoreLemmas.{at_rest, kept_same}
use Rattle.pd_restoring.specs.declared.fault.RestoreFault.TheVariants as r

-- a device that was left alone
pub resting : (content : Content) (ending : Ending) (device : DeviceState) → (IsDone ending → ⊥) → AnswersEnding ending content (room_of device.blocks)
    → IsMade content ending device device
resting content ending device undone answer = record {
  answer = answer;
  crash = λ image synced. at_rest image (MakesContent content (room_of device.blocks) image) device synced;
  made = λ is. absurd (undone is);
  told = still_tells device device refl;
  kept = λ _. kept_same device.held;
  untouched = λ small. record { held = refl; history = refl };
  early = λ is. record { held = refl; history = refl };
}

-- there is no room
pub resting_short : (content : Content) (need room : ℕ) (device : DeviceState) → room ≡ room_of device.blocks → need ≡ content.need room → room < need
    → IsMade content (short need room) device device
resting_short content need room device here is small =
    let exact : need ≡ content.need (room_of device.blocks) = is ∙ ap content.need here in
    resting content (short need room) device (λ none. none) (exact, (here, omega arith))

-- a restore of a text whose verdict is known: it is accepted, as this content
module _ {M : Type 0} (Lawful : M → Type 0) (IsVerdictOn : List ℕ → ℕ → Verdict M → Type 0) (is_early : List ℕ → ℕ → Bool) (laid : M → ℕ → Laid)
    (meaning : M) (content : Content) (laid_is : (room : ℕ) → laid meaning room ≡ content.laid room)
    (from to : SourceState) (old new : DeviceState) (fits : content.need (room_of old.blocks) ≤ room_of old.blocks)
    (only : (verdict : Verdict M) → IfSome from.left (λ text. IsVerdictOn text (room_of old.blocks) verdict) → verdict ≡ accepted meaning) where
  abbrev room : ℕ
  room = room_of old.blocks

  abbrev Restores : Result (Unit {0}) RestoreFault → Type 0
  Restores result = IsRestored Lawful IsVerdictOn is_early laid result from to old new

  verdict_is : (result : Result (Unit {0}) RestoreFault) (restored : Restores result) → restored.verdict ≡ accepted meaning
  verdict_is result restored = only restored.verdict (IfSome_then from.left restored.right (λ text right. right.0))

  -- no line is refused, and there is room
  pub not_refused : (fault : TextFault) → Restores (Err (r.Text fault)) → ⊥
  not_refused fault restored = subst (AnswersFault (r.Text fault)) (verdict_is (Err (r.Text fault)) restored) restored.answer

  pub has_room : (need blocks : ℕ) → Restores (Err (r.NoRoom need blocks)) → ⊥
  has_room need blocks restored = subst (AnswersFault (r.NoRoom need blocks)) (verdict_is (Err (r.NoRoom need blocks)) restored) restored.answer

  crash_is : (result : Result (Unit {0}) RestoreFault) → Restores result
      → (image : Image) → HoldsSynced image old → LeavesOnly (IsOldNoneOrMade image (MakesContent content room image)) old new
  crash_is result restored image synced =
      weaken (subst (λ (v : Verdict M). LeavesOnly (IsOldNoneOrMade image (Makes laid room v image)) old new) (verdict_is result restored) (restored.crash image synced))
      (λ left firsts is chance. ⊎_elim (λ same. inl same)
      (λ other. inr (⊎_elim (λ none. inl none) (λ made. inr (fits, subst (λ (l : Laid). IsLaid l image left) (laid_is room) made)) other)) (is chance))

  made_is : (restored : Restores (Ok tt)) → IfSome old.held (λ image. IfSome new.held (λ now. IsLaid (content.laid room) image now × HoldsSynced now new))
  made_is restored =
      subst (λ (l : Laid). IfSome old.held (λ image. IfSome new.held (λ now. IsLaid l image now × HoldsSynced now new))) (laid_is room)
      (subst (λ (v : Verdict M). IfSome old.held (λ image. IfSome new.held (λ now. Makes laid room v image now × HoldsSynced now new))) (verdict_is (Ok tt) restored) restored.made)

  -- all is made
  pub restored_made : content.Lawful → Restores (Ok tt) → IsMade content done old new
  restored_made lawful restored = record {
    answer = (lawful, fits);
    crash = crash_is (Ok tt) restored;
    made = λ _. made_is restored;
    told = restored.told;
    kept = λ none. absurd none;
    untouched = λ small. absurd (omega arith);
    early = λ none. absurd none;
  }

  -- memory was wanting, or the device failed
  pub restored_lacking : Restores (Err r.Memory) → IsMade content lacking old new
  restored_lacking restored = record {
    answer = tt;
    crash = crash_is (Err r.Memory) restored;
    made = λ none. absurd none;
    told = restored.told;
    kept = λ _. restored.kept tt;
    untouched = λ small. absurd (omega arith);
    early = λ none. absurd none;
  }

  pub restored_failed : Restores (Err r.Device) → IsMade content failed old new
  restored_failed restored = record {
    answer = tt;
    crash = crash_is (Err r.Device) restored;
    made = λ none. absurd none;
    told = restored.told;
    kept = λ none. absurd none;
    untouched = λ small. absurd (omega arith);
    early = λ none. absurd none;
  }

-- what is lawful, needs as much and is laid alike may stand for it
module _ (given wanted : Content) (lawful : given.Lawful → wanted.Lawful) (need : (room : ℕ) → given.need room ≡ wanted.need room)
    (laid : (room : ℕ) → given.laid room ≡ wanted.laid room) where
  answers_as : (ending : Ending) (blocks : ℕ) → AnswersEnding ending given blocks → AnswersEnding ending wanted blocks
  answers_as done blocks answer = (lawful answer.0, subst (λ n. n ≤ blocks) (need blocks) answer.1)
  answers_as lacking blocks answer = tt
  answers_as failed blocks answer = tt
  answers_as (short needed there) blocks answer = (answer.0 ∙ need blocks, answer.1)
  answers_as unbegun blocks answer = tt

  pub made_as : (ending : Ending) (old new : DeviceState) → IsMade given ending old new → IsMade wanted ending old new
  made_as ending old new made =
      let blocks = room_of old.blocks in record {
        answer = answers_as ending blocks made.answer;
        crash = λ image synced. weaken (made.crash image synced) (λ left firsts is chance. ⊎_elim (λ same. inl same)
            (λ other. inr (⊎_elim (λ none. inl none)
            (λ both. inr (subst (λ n. n ≤ blocks) (need blocks) both.0, subst (λ (l : Laid). IsLaid l image left) (laid blocks) both.1)) other)) (is chance));
        made = λ is. subst (λ (l : Laid). IfSome old.held (λ image. IfSome new.held (λ now. IsLaid l image now × HoldsSynced now new))) (laid blocks) (made.made is);
        told = made.told;
        kept = made.kept;
        untouched = λ small. made.untouched (subst (λ n. blocks < n) (sym (need blocks)) small);
        early = made.early;
      }
