-- What the work of a check that clears the flag comes to, over plain variables.
use Rattle.std.proofs.Common.{◌+◌, ◌≡◌, ◌≢◌, ◌⊎◌, inl, inr, ⊎_elim, ℕ, suc, ◌<◌, ◌≤◌, Bool, true, false, IsTrue, if◌then◌else◌, List, [], ◌∷◌, drop, length, get_or, Option, IfSome, refl, sym, ap, subst, ◌∙◌, arith, lit≤}
use Rattle.std.specs.Prelude.{IsSome}
use Rattle.std.specs.Option.{is_some, option_map_or}
use Rattle.std.proofs.lemmas.Bool.{true≢false}
use Rattle.std.proofs.lemmas.List.{ext_get_or}
use Rattle.std.proofs.lemmas.Option.{IfSome_then, get_or_from_slice_get, slice_get-get_or}
use Rattle.pd_kinds.specs.declared.kind.Flagged.{Flagged}
use Rattle.pd_kinds.specs.declared.kind.Passing.{Passing}
use Rattle.pd_kinds.specs.declared.kind.Stage.TheVariants.{Counts}
use Rattle.pd_kinds.specs.Graph.{block_at}
use Rattle.pd_kinds.specs.Objects.{History, DeviceState, SinkState, Appends, AppendsFront, Rose}
use Rattle.pd_kinds.specs.Flagged.{kind_of}
use Rattle.pd_kinds.specs.Rule.{Reported, passes, report_of}
use Rattle.pd_kinds.specs.Stages.{faults}
use Rattle.pd_kinds.specs.Crash.{LeavesOnly, HoldsSynced, IsSynced, IsUntouched, StillTells}
use Rattle.pd_kinds.proofs.ListLemmas.{front_from_whole, all_from}
use Rattle.pd_kinds.proofs.CrashLemmas.{and_then, stays, still_tells, weaken}
use Rattle.pd_grammar.specs.Lines.{reported_lines}
use Rattle.pd_answers.specs.Terms.{Objects, IsUsed, reading, writing, is_one_of, is_possible, ReadsFew}
use Rattle.pd_answers.specs.Flag.{IsOldOrCleared, IsOldOrClearedSuper, LeavesCleared, cleared, needs_check}
use Rattle.pd_answers.specs.Promises.{check_and_clear}
use Rattle.pd_image.specs.Device.{IsWritable, MayChange}
use Rattle.pd_image.proofs.CrashLemmas.{at_some}
use Rattle.pd_draft.specs.Closed.{IsOldOrNewFirst, IsReplaced}
use Rattle.pd_draft.proofs.DraftLemmas.{replaced_here}
use Rattle.pd_check.specs.Check as check_reads
use Rattle.pd_tools.specs.declared.ending.Stop.{Stop}
use Rattle.pd_tools.specs.declared.ending.Stop.TheVariants.{Device, Stream}
use Rattle.pd_tools.specs.Query.{IsUnread}
use Rattle.pd_tools.proofs.FewReads.{few}
use Rattle.pd_tools.specs.Task.{IsFinished, IsStopped}
use Rattle.pd_tools.proofs.Checks.{not_yet, told}
use Rattle.pd_tools.proofs.Works.{Stands, by_clean, finished_by, stopped_by, stopped_unread}

abbrev Image : Type 0
Image = List (List ℕ)

-- where block 0 alone may have changed, the blocks behind it stay
behind : (old new : Image) → MayChange 0 old new → drop 1 new ≡ drop 1 old
behind [] [] changes = refl
behind [] (block ∷ blocks) changes = absurd (omega (arith, changes.number))
behind (block ∷ blocks) [] changes = absurd (omega (arith, changes.number))
behind (block ∷ blocks) (other ∷ others) changes =
    let number : length others ≡ length blocks = omega (arith, changes.number) in
    ext_get_or [] others blocks number (λ i within.
    let within' : i < length blocks = omega arith in
    get_or_from_slice_get others i (get_or blocks i []) [] (changes.others (suc i) (λ no. absurd (omega arith)) ∙ slice_get-get_or blocks i [] within'))

-- an image that replaces another one, where it is that one, or has the flag cleared of what passes
abbrev IsSameOrCleared : Flagged → Bool → Image → Image → Type 0
IsSameOrCleared flagged passed image made = (made ≡ image) ⊎ ((passed ≡ true) × (made ≡ cleared flagged image))

-- what is left where block 0 alone was being replaced by that of such an image
old_or_cleared : (flagged : Flagged) (passed : Bool) (image made left firsts : Image) → IsSameOrCleared flagged passed image made
    → IsReplaced image made left firsts → IsOldOrCleared flagged passed image left firsts
old_or_cleared flagged passed image made left firsts of_made was = record {
  contents = all_from (IsOldOrNewFirst image made) (IsOldOrClearedSuper flagged passed image) (λ block had. ⊎_elim (λ old. inl old) (made_first block) had) firsts was.contents;
  others = behind image left was.others;
  outcome = λ chance.
      ⊎_elim (λ old. inl old)
      (λ rest. ⊎_elim
      (λ is. ⊎_elim (λ old. inl (is ∙ old)) (λ both. inr (inl (both.0, is ∙ both.1))) of_made)
      (λ torn. inr (inr (torn.0, behind image left torn.1)))
      rest)
      (was.outcome chance);
}
  where
    made_first : (block : List ℕ) → block ≡ block_at made 0 → IsOldOrClearedSuper flagged passed image block
    made_first block is =
        ⊎_elim (λ old. inl (is ∙ ap (λ (i : Image). block_at i 0) old)) (λ both. inr (both.0, is ∙ ap (λ (i : Image). block_at i 0) both.1)) of_made

module _ (flagged : Flagged) (passing : Passing) (report : Reported) (old new : DeviceState) (synced : IsSynced old) where
  -- a device that was left alone
  pub untouched_left : (status : ℕ) → status ≢ 0 → IsUntouched old new → LeavesCleared flagged passing report status old new
  untouched_left status some same = record {
    told = still_tells old new (ap is_some same.held);
    crash = IfSome_then old.held synced (λ image s.
        weaken (stays same.held same.history (replaced_here image image old s)) (λ left firsts. old_or_cleared flagged (passes passing report) image image left firsts (inl refl)));
    done = λ zero. absurd (some zero);
    unset = IfSome_then old.held synced (λ image s unset. same);
    reported = λ _. same;
    kept = λ _ _. same;
  }

  -- a device of which the flag was being cleared, after a report that passes
  pub cleared_left : passes passing report ≡ true → StillTells old new
      → ((image : Image) → HoldsSynced image old → LeavesOnly (IsReplaced image (cleared flagged image)) old new)
      → IfSome old.held (λ image. needs_check flagged image ≡ false → IsUntouched old new)
      → (status : ℕ) → (status ≡ 0 → (image : Image) → HoldsSynced image old → HoldsSynced (cleared flagged image) new)
      → (status ≢ 0 → new.faults ≡ old.faults → IsUntouched old new)
      → LeavesCleared flagged passing report status old new
  cleared_left none told crash unset status done kept = record {
    told = told;
    crash = IfSome_then old.held synced (λ image s.
        weaken (crash image s) (λ left firsts. old_or_cleared flagged (passes passing report) image (cleared flagged image) left firsts (inr (none, refl))));
    done = λ zero. IfSome_then old.held synced (done zero);
    unset = unset;
    reported = λ other. absurd (true≢false (sym none ∙ other));
    kept = kept;
  }

-- what is left of a device that was attached and read before
pub left_before : (flagged : Flagged) (passing : Passing) (report : Reported) (status : ℕ) (old read new : DeviceState) → IsSynced old → IsUntouched old read → read.faults ≡ old.faults
    → LeavesCleared flagged passing report status read new → LeavesCleared flagged passing report status old new
left_before flagged passing report status old read new synced same faults left = record {
  told = subst (λ (h : Option Image). IfSome h (λ image. IsSome new.held)) same.held left.told;
  crash = IfSome_then old.held synced (λ image s.
      and_then (stays same.held same.history (λ left firsts leaves. old_or_cleared flagged (passes passing report) image image left firsts (inl refl) (replaced_here image image old s left firsts leaves)))
      (at_some read.held (λ (i : Image). LeavesOnly (IsOldOrCleared flagged (passes passing report) i) read new) image (same.held ∙ s.held) left.crash));
  done = λ zero. IfSome_then old.held synced (λ image s.
      at_some read.held (λ (i : Image). HoldsSynced (cleared flagged i) new) image (same.held ∙ s.held) (left.done zero));
  unset = IfSome_then old.held synced (λ image s unset.
      and_same (at_some read.held (λ (i : Image). needs_check flagged i ≡ false → IsUntouched read new) image (same.held ∙ s.held) left.unset unset));
  reported = λ some. and_same (left.reported some);
  kept = λ some no_fault. and_same (left.kept some (no_fault ∙ sym faults));
}
  where
    and_same : IsUntouched read new → IsUntouched old new
    and_same next = record { held = next.held ∙ same.held; history = next.history ∙ same.history }

-- a device that was left alone is as synced as before
pub synced_too : (old read : DeviceState) → IsSynced old → IsUntouched old read → IsSynced read
synced_too old read synced same =
    subst (λ (h : Option Image). IfSome h (λ image. HoldsSynced image read)) (sym same.held)
    (IfSome_then old.held synced (λ image s. record {
      held = same.held ∙ s.held;
      unsynced = ap (λ (h : History). h.unsynced) same.history ∙ s.unsynced;
      firsts = ap (λ (h : History). h.firsts) same.history ∙ s.firsts;
    }))

-- the report of what is held, or some report
report_in : Flagged → Option Image → Reported
report_in flagged held = option_map_or (λ image. report_of (faults (kind_of flagged) Counts image)) held (report_of [])

-- before anything was done
pub clearing_at_rest : (flagged : Flagged) (passing : Passing) (path : List ℕ) (before : Objects) (notes : SinkState) → IsSynced before.input
    → (report : Reported) × ((check_and_clear flagged passing path).finds before (record before { notes = notes }) report)
    × ((check_and_clear flagged passing path).leaves report before (record before { notes = notes }) 6)
unfolding report_in
clearing_at_rest flagged passing path before notes synced = (
  report_in flagged before.input.held,
  told before.input.held (λ image. report_of (faults (kind_of flagged) Counts image)) (report_of []),
  untouched_left flagged passing (report_in flagged before.input.held) before.input before.input synced 6 (λ e. omega arith) (record { held = refl; history = refl }),
)

-- the image was not read to a report
pub clearing_unread : (flagged : Flagged) (passing : Passing) (path : List ℕ) (others : Objects) (notes out : SinkState) (input input' : DeviceState) (stop : Stop)
    → out.access ≡ 0 → IsSynced input → IsUsed (writing path) input'.access input'.path → IsUntouched input input'
    → IfSome input.held (λ image. check_reads.ReadsFew (kind_of flagged) Counts image (input.reads + 1) input'.reads) → IsUnread (kind_of flagged) Counts input input' stop
    → IsStopped (check_and_clear flagged passing path) (record others { out = out; input = input }) (record others { out = out; notes = notes; input = input' }) stop
unfolding report_in
clearing_unread flagged passing path others notes out input input' stop none synced used untouched reads unread =
    stopped_unread (check_and_clear flagged passing path) (record others { out = out; input = input }) (record others { out = out; notes = notes; input = input' }) (record {
      followed = record { source = tt; out = not_yet [] out.access out.path none; input = used; output = tt; third = tt };
      order = record { input = λ _. tt; output = tt; third = tt; out = λ ne. absurd (ne none) };
      kept = record { source = refl; out = tt; input = tt; output = refl; third = refl };
      reads = few (kind_of flagged) Counts input.held input.reads input'.reads reads;
    }) (report_in flagged input.held) (told input.held (λ image. report_of (faults (kind_of flagged) Counts image)) (report_of [])) refl (kind_of flagged) Counts stop unread refl (λ wants. (refl, wants))
    (λ status high. untouched_left flagged passing (report_in flagged input.held) input input' synced status (λ e. omega arith) untouched)

-- the image was read to this report, and `out` was attached for it
module _ (flagged : Flagged) (passing : Passing) (path : List ℕ) (others : Objects) (notes out out' : SinkState) (input input' : DeviceState) (report : Reported)
    (found : IfSome input.held (λ image. report ≡ report_of (faults (kind_of flagged) Counts image)))
    (out_used : IsUsed (reading []) out'.access out'.path) (writable : IsWritable input') (named : IfSome input'.path (λ told. told ≡ path))
    (reads : IfSome input.held (λ image. ReadsFew (kind_of flagged) image input.reads input'.reads)) where
  abbrev before : Objects
  before = record others { out = out; input = input }

  abbrev after : Objects
  after = record others { out = out'; notes = notes; input = input' }

  stands : Stands (check_and_clear flagged passing path) before after
  stands = record {
    followed = record { source = tt; out = out_used; input = record { allowed = inr (inl writable); named = λ _. named }; output = tt; third = tt };
    order = record { input = λ _. tt; output = tt; third = tt; out = λ _. record { source = tt; input = writable; output = tt; third = tt } };
    kept = record { source = refl; out = tt; input = tt; output = refl; third = refl };
    reads = reads;
  }

  -- the report was put, and the flag cleared where it passes
  pub clearing_done : (passed : Bool) → passed ≡ passes passing report → Appends (reported_lines report) out.written out'.written → out'.access ≡ 1
      → LeavesCleared flagged passing report (if passed then 0 else 1) input input'
      → IsFinished (check_and_clear flagged passing path) before after (if passed then 0 else 1) []
  clearing_done passed is whole attached leaves =
      finished_by (check_and_clear flagged passing path) before after stands report found (if passed then 0 else 1) (reported_lines report) []
      (by_clean (λ s. s ≤ 4) passed (lit≤ tt) (lit≤ tt)) (by_clean (λ s. IsTrue (is_possible (check_and_clear flagged passing path) s)) passed refl refl)
      (λ quiet. absurd (by_clean (λ s. IsTrue (is_one_of (7 ∷ []) s) → ⊥) passed (λ e. cc) (λ e. cc) quiet)) (λ no. absurd no)
      (rw is refl) whole (record { source = tt; input = writable; output = tt; third = tt }) (λ _. attached) (λ _. tt) leaves

  -- the report wasn't put
  pub clearing_unput : AppendsFront (reported_lines report) out.written out'.written → Rose out.faults out'.faults
      → LeavesCleared flagged passing report 6 input input'
      → IsStopped (check_and_clear flagged passing path) before after Stream
  clearing_unput front rose left =
      stopped_by (check_and_clear flagged passing path) before after stands report found Stream refl (λ e. absurd cc) (λ no. absurd no) (inr rose) front left left

  -- the report was put, and the device failed then
  pub clearing_failed : Appends (reported_lines report) out.written out'.written → Rose input.faults input'.faults
      → ((status : ℕ) → status ≢ 0 → LeavesCleared flagged passing report status input input')
      → IsStopped (check_and_clear flagged passing path) before after Device
  clearing_failed whole rose left =
      stopped_by (check_and_clear flagged passing path) before after stands report found Device refl (λ e. absurd cc) (λ no. absurd no) (inl rose)
      (front_from_whole _ _ _ whole) (left 5 (λ e. omega arith)) (left 6 (λ e. omega arith))
