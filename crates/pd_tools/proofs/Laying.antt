-- What is left of an output over which something was laid, or was to be, over plain variables.
use Rattle.std.proofs.Common.{◌≡◌, ◌≢◌, ◌⊎◌, inl, inr, ℕ, ◌≤◌, true, false, not, nat_eq, Option, IfSome, refl, ◌∙◌, subst, arith, length, Some, None, sym, ap}
use Rattle.std.specs.Prelude.{IsSome}
use Rattle.std.proofs.lemmas.Bool.{cases_lt}
use Rattle.std.proofs.lemmas.Option.{IfSome_then}
use Rattle.std.specs.Option.{option_map_or}
use Rattle.pd_kinds.specs.Crash.{HasNoSuper, HoldsOldOrNone, HoldsSynced, IsSynced, IsUntouched}
use Rattle.pd_kinds.specs.Image.{room_of}
use Rattle.pd_kinds.specs.Objects.{DeviceState, Rose, SinkState}
use Rattle.pd_kinds.proofs.CrashLemmas.{and_then, stays, weaken}
use Rattle.pd_laid.specs.Laid.{IsLaid}
use Rattle.pd_answers.specs.Terms.{Answer, AreFresh, Objects}
use Rattle.pd_answers.specs.Outputs.{Lays, Making, LeavesMade, LeavesMadeFirst, IsRoom}
use Rattle.pd_answers.specs.Writebacks.{HasBlocks}
use Rattle.pd_restoring.specs.Made.{Content, Ending, IsDone, IsMade, IsOfOthers, MakesContent}
use Rattle.pd_tools.proofs.Answered.{not_risen}
use Rattle.pd_tools.proofs.Restores.{Image, here, left_lost, same_held, still_synced, untouched_output, room-held}
use Rattle.pd_tools.proofs.Tasks.{and_same}
use Rattle.pd_tools.proofs.Works.{not_done, still_done}
use Rattle.pd_tools.specs.Task.{IsMeasured}
use Rattle.pd_tools.proofs.Checks.{one_told}

-- what is laid of a content
abbrev pub making_of : Content → Making
making_of content = record { need = content.need; laid = content.laid }

-- the output was attached, and then this was to be laid over it, which the answer says where there is room
module _ (output writable last : DeviceState) (synced : IsSynced output) (same : IsUntouched output writable)
    (content : Content) (ending : Ending) (made : IsMade content ending writable last) (answer : Answer) where
  abbrev room : ℕ
  room = room_of writable.blocks

  abbrev Leaves : ℕ → Type 0
  Leaves status = LeavesMade (Lays answer (making_of content) room) (not (nat_eq answer.status 0)) status output last

  -- what was left alone since it was attached
  pub still_alone : IsUntouched writable last → IsUntouched output last
  still_alone alone = record { held = alone.held ∙ same.held; history = alone.history ∙ same.history }

  -- unless the output itself failed, it is as it was, or has no valid superblock
  pub laid_kept : IsOfOthers ending → HoldsOldOrNone output last
  laid_kept others =
      subst (λ (h : Option Image). IfSome h (λ image. IfSome last.held (λ now. (now ≡ image) ⊎ HasNoSuper now))) same.held (made.kept others)

  -- it was laid
  pub laid_leaves : answer.status ≡ 0 → (status : ℕ) → (status ≡ 0 → IsDone ending) → ((status ≡ 3) ⊎ (status ≡ 4) → ⊥) → Leaves status
  laid_leaves zero status is_done other = record {
    output = record {
      told = subst (λ (h : Option Image). IfSome h (λ image. IsSome last.held)) same.held made.told;
      crash = IfSome_then output.held synced (λ image s.
          weaken
          (and_then (stays {old = output} {new = writable} same.held same.history (here image (MakesContent content room image) output s))
          (made.crash image (still_synced image output writable same s)))
          (λ left firsts is chance. elim (is chance) [
            | inl old ↦ inl old
            | inr none ↦ elim none [ inl torn ↦ inr (inl torn) | inr new ↦ inr (inr (zero, new.1)) ]
          ]));
      made = λ e. IfSome_then output.held
          (subst (λ (h : Option Image). IfSome h (λ image. IfSome last.held (λ now. IsLaid (content.laid room) image now × HoldsSynced now last)))
          same.held (made.made (is_done e)))
          (λ image all. IfSome_then last.held all (λ now is. ((zero, is.0), is.1)));
      refused = λ either. absurd (other either);
    };
    untouched = λ unwritten. absurd (never unwritten);
  }
    where
      never : not (nat_eq answer.status 0) ≡ true → ⊥
      never e = let f : false ≡ true = rw zero at e in cc

  -- whatever room there is, under a status that isn't an answer's
  pub any_leaves : (content.need room ≤ room → answer.status ≡ 0) → (status : ℕ) → status ≢ 0 → status ≢ 3 → status ≢ 4 → Leaves status
  any_leaves zero status some three four = elim (cases_lt room (content.need room)) [
    | inl small ↦ untouched_output (Lays answer (making_of content) room) (not (nat_eq answer.status 0)) status output last synced (still_alone (made.untouched small)) some
    | inr fits ↦ laid_leaves (zero fits) status (λ e. absurd (some e)) (λ either. elim either [ inl e ↦ three e | inr e ↦ four e ])
  ]

-- an output that was left alone, of a request that makes an image of it and then puts a line: under each status but 0
pub first_alone : (Made : Image → Image → Type 0) (answered : ℕ) (before after : Objects) (status : ℕ) → IsSynced before.output → after.out ≡ before.out
    → IsUntouched before.output after.output → status ≢ 0 → LeavesMadeFirst Made answered before after status
first_alone Made answered before after status synced unput same some = record {
  output = untouched_output Made (not (nat_eq answered 0)) status before.output after.output synced same some;
  made = λ done. absurd (not_done before after status some unput done);
  kept = λ _ _ _. same_held before.output after.output same.held;
  input_failed = λ _ _. same;
}

-- what is left where a line is lost
pub first_lost : (Made : Image → Image → Type 0) (answered : ℕ) (before after : Objects) (status : ℕ) → status ≢ 0
    → LeavesMadeFirst Made answered before after status → LeavesMadeFirst Made answered before after 6
first_lost Made answered before after status some left = record {
  output = left_lost _ _ status before.output after.output left.output;
  made = λ done. left.made (still_done before after status done);
  kept = λ _. left.kept some;
  input_failed = λ e. absurd (omega arith);
}

-- The output was attached, and then this was to be laid over it, which the answer says where there is room; a line is put after that
module _ (before after : Objects) (writable : DeviceState) (fresh : AreFresh before) (same : IsUntouched before.output writable) (unput : after.out ≡ before.out)
    (content : Content) (ending : Ending) (made : IsMade content ending writable after.output) (answer : Answer)
    (zero : content.need (room_of writable.blocks) ≤ room_of writable.blocks → answer.status ≡ 0) where
  abbrev MadeHere : Image → Image → Type 0
  MadeHere = Lays answer (making_of content) (room_of writable.blocks)

  abbrev First : ℕ → Type 0
  First status = LeavesMadeFirst MadeHere answer.status before after status

  -- the output was left alone
  pub first_spared : IsUntouched writable after.output → (status : ℕ) → status ≢ 0 → First status
  first_spared still status some = first_alone MadeHere answer.status before after status fresh.output.2 unput (and_same same still) some

  -- after a fault of memory, or of the output
  either_way : (status : ℕ) → (after.output.faults ≡ before.output.faults → HoldsOldOrNone before.output after.output)
      → (status ≡ 5 → after.output.faults ≡ before.output.faults → IsUntouched before.output after.output)
      → status ≢ 0 → status ≢ 3 → status ≢ 4 → First status
  either_way status kept input_failed some three four = record {
    output = any_leaves before.output writable after.output fresh.output.2 same content ending made answer zero status some three four;
    made = λ done. absurd (not_done before after status some unput done);
    kept = λ _ _. kept;
    input_failed = input_failed;
  }

  pub first_lacking : IsOfOthers ending → First 7
  first_lacking others =
      let held = laid_kept before.output writable after.output fresh.output.2 same content ending made answer others in
      either_way 7 (λ _. held) (λ e. absurd (omega arith)) (λ e. omega arith) (λ e. omega arith) (λ e. omega arith)

  pub first_failed : Rose before.output.faults after.output.faults → First 5
  first_failed risen =
      let never : after.output.faults ≡ before.output.faults → ⊥ = λ unrisen. not_risen before.output.faults after.output.faults fresh.output.1 unrisen risen in
      either_way 5 (λ unrisen. absurd (never unrisen)) (λ _ unrisen. absurd (never unrisen)) (λ e. omega arith) (λ e. omega arith) (λ e. omega arith)

  -- it was laid, whatever becomes of the line
  pub first_done : IsDone ending → answer.status ≡ 0 → (out : SinkState) (status : ℕ) → (status ≡ 0) ⊎ (status ≡ 6) → out ≢ before.out
      → LeavesMadeFirst MadeHere answer.status before (record after { out = out }) status
  first_done is_done given out status which touched = record {
    output = laid status which;
    made = λ _. (laid 0 (inl refl)).output.made refl;
    kept = λ _ unput_yet. absurd (touched unput_yet);
    input_failed = λ five. absurd (elim which [ inl e ↦ omega arith | inr e ↦ omega arith ]);
  }
    where
      laid : (at : ℕ) → (at ≡ 0) ⊎ (at ≡ 6) → LeavesMade MadeHere (not (nat_eq answer.status 0)) at before.output after.output
      laid at is =
          laid_leaves before.output writable after.output fresh.output.2 same content ending made answer given at (λ _. is_done)
          (λ either. elim is [ inl e ↦ elim either [ inl t ↦ omega arith | inr t ↦ omega arith ] | inr e ↦ elim either [ inl t ↦ omega arith | inr t ↦ omega arith ] ])

-- How many blocks devices have, by what they tell.

-- of what is told, and else of the device
blocks_by : Option Image → ℕ → ℕ
blocks_by held blocks = option_map_or (λ (image : Image). length image) held blocks

blocks_told : (held : Option Image) (blocks : ℕ) → IfSome held (λ image. blocks_by held blocks ≡ length image)
unfolding blocks_by
blocks_told None blocks = tt
blocks_told (Some image) blocks = refl

blocks_same : (held : Option Image) (blocks : ℕ) → IfSome held (λ image. length image ≡ blocks) → blocks_by held blocks ≡ blocks
unfolding blocks_by
blocks_same None blocks is = refl
blocks_same (Some image) blocks is = is

-- those of a device that was left alone
pub blocks_of : (old new : DeviceState) → ℕ
blocks_of old new = blocks_by old.held new.blocks

measured_first : (old new : DeviceState) → new.held ≡ old.held → IfSome new.held (λ image. length image ≡ new.blocks) → IfSome old.held (λ image. length image ≡ new.blocks)
measured_first old new same measured = subst (λ (h : Option Image). IfSome h (λ image. length image ≡ new.blocks)) same measured

pub blocks_at_rest : (old new : DeviceState) → new.held ≡ old.held → IsMeasured new → HasBlocks old new (blocks_of old new)
unfolding blocks_of
blocks_at_rest old new same measured = record {
  told = blocks_told old.held new.blocks;
  attached = λ either. blocks_same old.held new.blocks (measured_first old new same (measured (λ none. elim either [ inl e ↦ absurd (omega arith) | inr e ↦ absurd (omega arith) ])));
}

pub room_at_rest : (old new : DeviceState) → new.held ≡ old.held → IsMeasured new → IsRoom old new (room_of (blocks_of old new))
unfolding blocks_of
room_at_rest old new same measured = record {
  told = one_told old.held (λ image is. ap room_of is) (blocks_told old.held new.blocks);
  attached = λ two. ap room_of (blocks_same old.held new.blocks (measured_first old new same (measured (λ none. absurd (omega arith)))));
}

-- those of a device that was attached, and may have been written since
pub has_blocks : (old opened new : DeviceState) (blocks : ℕ) → blocks ≡ opened.blocks → opened.held ≡ old.held → IfSome opened.held (λ image. length image ≡ opened.blocks)
    → new.blocks ≡ opened.blocks → HasBlocks old new blocks
has_blocks old opened new blocks same held measured number = record {
  told = rw same (one_told old.held (λ image is. sym is) (measured_first old opened held measured));
  attached = λ _. same ∙ sym number;
}

pub has_room : (old opened new : DeviceState) (room : ℕ) → room ≡ room_of opened.blocks → opened.held ≡ old.held → IfSome opened.held (λ image. length image ≡ opened.blocks)
    → new.blocks ≡ opened.blocks → IsRoom old new room
has_room old opened new room same held measured number = record {
  told = rw same (room-held old.held opened.held opened.blocks held measured);
  attached = λ _. same ∙ ap room_of (sym number);
}
