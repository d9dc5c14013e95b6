-- What the work of a restore comes to, over plain variables.
use Rattle.std.proofs.Common.{◌≡◌, ◌≢◌, ◌⊎◌, inl, inr, ℕ, ◌≤◌, Bool, List, [], length, Option, Some, None, IfSome, IsTrue, Result, Ok, Err, refl, sym, ap, ◌∙◌, subst, arith, lit≤}
use Rattle.std.specs.Prelude.{OnOk, IsSome, MatchResult}
use Rattle.std.specs.Option.{is_some, option_map_or}
use Rattle.std.proofs.lemmas.Option.{IfSome_then}
use Rattle.pd_kinds.specs.declared.kind.Kind.{Kind}
use Rattle.pd_kinds.specs.declared.kind.Kind.TheVariants.{Thin, Cache, Era}
use Rattle.pd_kinds.specs.Objects.{DeviceState, SourceState, SinkState, Rose, History, present_moment}
use Rattle.pd_kinds.specs.Crash.{IsSynced, LeavesNow, HoldsOldOrNone, HoldsSynced, HasNoSuper, IsOldNoneOrMade, IsUntouched}
use Rattle.pd_kinds.proofs.CrashLemmas.{and_then, stays, still_tells, left_now, left_synced}
use Rattle.pd_kinds.specs.Image.{room_of}
use Rattle.pd_grammar.specs.Spelling.{Verdict, accepted, refused, no_room}
use Rattle.pd_grammar.specs.CacheText.{IsCacheVerdict}
use Rattle.pd_grammar.specs.EraText.{IsEraVerdict}
use Rattle.pd_grammar.specs.Lawful.{IsLawfulCache, IsLawfulEra}
use Rattle.pd_grammar.specs.Early.{is_cache_early, is_era_early}
use Rattle.pd_laid.specs.Laid.{Laid, Makes}
use Rattle.pd_laid.specs.LaidThin.{laid_shape}
use Rattle.pd_laid.specs.LaidCache.{laid_cache}
use Rattle.pd_laid.specs.LaidEra.{laid_era}
use Rattle.pd_laid.specs.PoolText.{IsLawfulShape, IsPoolTextVerdict, is_pool_text_early}
use Rattle.pd_answers.specs.Terms.{Objects, IsUsed, reading, writing, is_possible}
use Rattle.pd_answers.specs.Outputs.{LeavesMade, LeavesMadeLast}
use Rattle.pd_answers.specs.Restores.{IsRefusedEarly, Judged, LeavesRestored, restore_answer, restore_by, restore}
use Rattle.pd_image.specs.Device.{KeepsPlace}
use Rattle.pd_image.specs.Source.{KeepsSource}
use Rattle.pd_texts.specs.declared.reader.TextFault.{TextFault}
use Rattle.pd_restoring.specs.declared.fault.RestoreFault.{RestoreFault}
use Rattle.pd_restoring.specs.Restored.{CountsRestore, IsRestored, AnswersVerdict, IsAccepted, IsOfFirstLines, IsOfOthers, IsRefused, IsWithoutRoom}
use Rattle.pd_restoring.specs.declared.fault.RestoreFault.TheVariants as fault
use Rattle.pd_tools.specs.declared.ending.Ending.TheVariants.{Refused, NoRoom}
use Rattle.pd_tools.proofs.Answered.{not_risen, stop_status-low}
use Rattle.pd_tools.specs.declared.ending.Stop.{Stop}
use Rattle.pd_tools.specs.declared.ending.Stop.TheVariants.{Device, Stream, Memory}
use Rattle.pd_tools.specs.Stop.{stop_status}
use Rattle.pd_tools.specs.Ending.{ending_line, ending_status, restore_ended}
use Rattle.pd_tools.specs.Restore.{HaveVerdicts, TextsHaveVerdicts, IsRestoredAs, AreAttached, AreUnattached, FailedToAttach}
use Rattle.pd_tools.specs.Task.{IsStopped, IsFinished, HasCause}
use Rattle.pd_tools.proofs.Works.{Stands, by_stop, finished_early, stopped_early}

abbrev pub Image : Type 0
Image = List (List ℕ)

-- the verdicts of all kinds
pub all_kinds : HaveVerdicts IsPoolTextVerdict → ((version : ℕ) → HaveVerdicts (IsCacheVerdict version)) → HaveVerdicts IsEraVerdict
    → (kind : Kind) (version : ℕ) → TextsHaveVerdicts kind version
all_kinds thin cache era Thin version = thin
all_kinds thin cache era Cache version = cache version
all_kinds thin cache era Era version = era

-- what is there before the first call, where nothing is unsynced
pub here : (image : Image) (Made : Image → Type 0) (device : DeviceState) → HoldsSynced image device → LeavesNow (IsOldNoneOrMade image Made) device
here image Made device synced left firsts leaves chance =
    inl (left_synced image left (present_moment image device.history) refl synced.unsynced (left_now device image left firsts synced.held leaves).0)

-- a device that was left alone still holds its image, with nothing unsynced
pub still_synced : (image : Image) (old new : DeviceState) → IsUntouched old new → HoldsSynced image old → HoldsSynced image new
still_synced image old new same synced = record {
  held = same.held ∙ synced.held;
  unsynced = ap (λ (h : History). h.unsynced) same.history ∙ synced.unsynced;
  firsts = ap (λ (h : History). h.firsts) same.history ∙ synced.firsts;
}

kept_same : (held : Option Image) → IfSome held (λ image. IfSome held (λ now. (now ≡ image) ⊎ HasNoSuper now))
kept_same None = tt
kept_same (Some image) = inl refl

-- what a device that was left alone holds
pub same_held : (old new : DeviceState) → new.held ≡ old.held → HoldsOldOrNone old new
same_held old new same =
    subst (λ (h : Option Image). IfSome old.held (λ image. IfSome h (λ now. (now ≡ image) ⊎ HasNoSuper now))) (sym same) (kept_same old.held)

-- an output that was left alone
pub untouched_output : (Made : Image → Image → Type 0) (unwritten : Bool) (status : ℕ) (old new : DeviceState) → IsSynced old → IsUntouched old new
    → status ≢ 0 → LeavesMade Made unwritten status old new
untouched_output Made unwritten status old new synced same not_made = record {
  output = record {
    told = still_tells old new (ap is_some same.held);
    crash = IfSome_then old.held synced (λ image s. stays same.held same.history (here image (Made image) old s));
    made = λ zero. absurd (not_made zero);
    refused = λ _. same_held old new same.held;
  };
  untouched = λ _. same;
}

-- the same where making the image is the last that the request does
pub untouched_last : (Made : Image → Image → Type 0) (unwritten : Bool) (status : ℕ) (old new : DeviceState) → IsSynced old → IsUntouched old new
    → status ≢ 0 → LeavesMadeLast Made unwritten status old new
untouched_last Made unwritten status old new synced same not_made = record {
  made = untouched_output Made unwritten status old new synced same not_made;
  kept = λ _ _. same_held old new same.held;
}

untouched_restored : {M : Type 0} (laid : M → ℕ → Laid) (judged : Judged M) (status : ℕ) (old new : DeviceState) → IsSynced old → IsUntouched old new
    → status ≢ 0 → LeavesRestored laid judged status old new
untouched_restored laid judged status old new synced same not_made = record {
  output = untouched_last (Makes laid judged.room judged.verdict) judged.is_early status old new synced same not_made;
  first_lines = λ _ _. same;
}

-- the room of an output, and the text that is left
room_in : Option Image → ℕ
room_in held = option_map_or (λ (image : Image). room_of (length image)) held 0

room-told : (held : Option Image) → IfSome held (λ image. room_in held ≡ room_of (length image))
unfolding room_in
room-told None = tt
room-told (Some image) = refl

text_in : Option (List ℕ) → List ℕ
text_in left = option_map_or (λ (text : List ℕ). text) left []

verdict-told : {M : Type 0} (P : List ℕ → ℕ → Verdict M → Type 0) (early : List ℕ → ℕ → Bool) (left : Option (List ℕ)) (room : ℕ) (v : Verdict M) → P (text_in left) room v
    → IfSome left (λ text. P text room v × (early (text_in left) room ≡ early text room))
unfolding text_in
verdict-told P early None room v is = tt
verdict-told P early (Some text) room v is = (is, refl)

-- the answer to a verdict, by the result
pub answer_accepted : {M : Type 0} (Lawful : M → Type 0) (v : Verdict M) → IsAccepted Lawful v → restore_answer v ≡ record { status = 0; out = []; notes = [] }
answer_accepted Lawful (accepted m) is = refl
answer_accepted Lawful (refused why) is = absurd is
answer_accepted Lawful (no_room needed blocks) is = absurd is

-- a refusal is that of the verdict, so it is of line 1 or 2 where that is
early_line : {M : Type 0} (why : TextFault) (v : Verdict M) → IsRefused why v → IsRefusedEarly v → IsOfFirstLines (fault.Text why)
early_line why (accepted m) is early = absurd is
early_line why (refused refusal) is early = rw is at early
early_line why (no_room needed blocks) is early = absurd is

answer_refused : {M : Type 0} (why : TextFault) (v : Verdict M) → IsRefused why v
    → restore_answer v ≡ record { status = 3; out = []; notes = ending_line (Refused why) }
answer_refused why (accepted m) is = absurd is
answer_refused why (refused refusal) is = rw is refl
answer_refused why (no_room needed blocks) is = absurd is

pub answer_no_room : {M : Type 0} (need room : ℕ) (v : Verdict M) → IsWithoutRoom need room v
    → restore_answer v ≡ record { status = 4; out = []; notes = ending_line (NoRoom need room) }
answer_no_room need room (accepted m) is = absurd is
answer_no_room need room (refused refusal) is = absurd is
answer_no_room need room (no_room needed blocks) is = rw (is.0, is.1) refl

module _ {M : Type 0} (Lawful : M → Type 0) (IsVerdictOn : List ℕ → ℕ → Verdict M → Type 0) (is_early : List ℕ → ℕ → Bool) (laid : M → ℕ → Laid)
    (file path : List ℕ) (others : Objects) (notes : SinkState) (source last_source : SourceState) (output last_output : DeviceState) (synced : IsSynced output) where
  abbrev before : Objects
  before = record others { source = source; output = output }

  abbrev after : Objects
  after = record others { source = last_source; notes = notes; output = last_output }

  -- an object couldn't be attached
  pub not_attached : HaveVerdicts IsVerdictOn → (stop : Stop) → AreUnattached file path source last_source output last_output stop
      → IsStopped (restore_by IsVerdictOn is_early laid file path) before after stop
  not_attached verdicts stop un =
      let room = room_in output.held in
      let found = verdicts (text_in source.left) room in
      let early = is_early (text_in source.left) room in
      let judged : Judged M = record { room = room; verdict = found.0; is_early = early } in
      let leaves = λ (status : ℕ) (some : status ≢ 0). untouched_restored laid judged status output last_output synced un.untouched some in
      stopped_early (restore_by IsVerdictOn is_early laid file path) before after (record {
        followed = record { source = un.source_used; out = tt; input = tt; output = un.output_used; third = tt };
        order = record { input = tt; output = λ ne. (un.order ne, tt); third = tt; out = tt };
        kept = record { source = tt; out = refl; input = refl; output = tt; third = refl };
        reads = tt;
      }) judged (record { told = room-told output.held; attached = λ e. absurd (un.closed e) }, verdict-told IsVerdictOn is_early source.left room found.0 found.1)
      refl stop (by_stop (λ s. IsTrue (is_possible (restore_by IsVerdictOn is_early laid file path) s)) stop refl refl refl) (failed stop un.cause) (leaves (stop_status stop) (λ e. let high = stop_status-low stop in omega arith)) (leaves 6 (λ e. omega arith))
    where
      failed : (stop : Stop) → FailedToAttach source last_source output last_output stop → HasCause (restore_by IsVerdictOn is_early laid file path) before after stop
      failed Device rose = inr (inl rose)
      failed Stream rose = inl rose
      failed Memory none = absurd none

-- the room of a device that tells how many blocks it has
pub room-held : (held opened_held : Option Image) (blocks : ℕ) → opened_held ≡ held → IfSome opened_held (λ image. length image ≡ blocks)
    → IfSome held (λ image. room_of blocks ≡ room_of (length image))
room-held held opened_held blocks same measured =
    IfSome_then held (subst (λ (h : Option Image). IfSome h (λ image. length image ≡ blocks)) same measured) (λ image is. ap room_of (sym is))

-- what is right of the text that was attached is right of the text that was there before
right-before : (P : List ℕ → Type 0) (left attached_left : Option (List ℕ)) → attached_left ≡ left → IfSome attached_left P → IfSome left P
right-before P left attached_left same right = subst (λ (l : Option (List ℕ)). IfSome l P) same right

-- a result without a fault
abbrev IsDone : Result (Unit {0}) RestoreFault → Type 0
IsDone (Ok done) = Unit {0}
IsDone (Err fault) = ⊥

-- what holds of a fault that is known
at_fault : (P : RestoreFault → Type 0) (result : Result (Unit {0}) RestoreFault) (f : RestoreFault) → result ≡ Err f
    → MatchResult result (λ done. Unit {0}) P → P f
at_fault P result f is all = rw is at all

where_done : (result : Result (Unit {0}) RestoreFault) {P : Type 0} → OnOk result P → IsDone result → P
where_done (Ok done) p is = p
where_done (Err fault) p is = absurd is

module _ {M : Type 0} (Lawful : M → Type 0) (IsVerdictOn : List ℕ → ℕ → Verdict M → Type 0) (is_early : List ℕ → ℕ → Bool) (laid : M → ℕ → Laid)
    (file path : List ℕ) (others : Objects) (notes : SinkState) (source attached last_source : SourceState) (output opened last_output : DeviceState)
    (synced : IsSynced output) (both : AreAttached file path source attached output opened)
    (measured : IfSome opened.held (λ image. length image ≡ opened.blocks))
    (place : KeepsPlace opened last_output) (keeps : KeepsSource attached last_source)
    (result : Result (Unit {0}) RestoreFault) (done : IsRestored Lawful IsVerdictOn is_early laid result attached last_source opened last_output) where
  abbrev room : ℕ
  room = room_of opened.blocks

  abbrev finding : Judged M
  finding = record { room = room; verdict = done.verdict; is_early = done.early }

  -- what was found is right
  found : (restore_by IsVerdictOn is_early laid file path).finds (record others { source = source; output = output })
      (record others { source = last_source; notes = notes; output = last_output }) finding
  found = (
    record {
      told = room-held output.held opened.held opened.blocks both.untouched.held measured;
      attached = λ _. ap room_of (sym place.blocks);
    },
    right-before (λ text. IsVerdictOn text room done.verdict × (done.early ≡ is_early text room)) source.left attached.left both.left done.right,
  )

  -- both objects are attached as they are named
  source_used : IsUsed (reading file) last_source.access last_source.path
  source_used = record { allowed = inr (inl (keeps.access ∙ both.source_access)); named = λ _. rw keeps.path both.source_path }

  output_used : IsUsed (writing path) last_output.access last_output.path
  output_used = record { allowed = inr (inl (place.access ∙ both.output_access)); named = λ _. rw place.path both.output_path }

  -- what was left alone since it was attached
  untouched : IsUntouched opened last_output → IsUntouched output last_output
  untouched same = record { held = same.held ∙ both.untouched.held; history = same.history ∙ both.untouched.history }

  -- after a fault that isn't the output's
  spared : (f : RestoreFault) → result ≡ Err f → IsOfOthers f → HoldsOldOrNone output last_output
  spared f is others =
      subst (λ (h : Option Image). IfSome h (λ image. IfSome last_output.held (λ now. (now ≡ image) ⊎ HasNoSuper now))) both.untouched.held
      (at_fault (λ fault. IsOfOthers fault → HoldsOldOrNone opened last_output) result f is done.kept others)

  -- what the output holds
  leaves : (status : ℕ) → (status ≡ 0 → IsDone result) → ((status ≡ 3) ⊎ (status ≡ 4) → HoldsOldOrNone output last_output)
      → (status ≢ 0 → last_output.faults ≡ output.faults → HoldsOldOrNone output last_output)
      → (status ≡ 3 → IsRefusedEarly done.verdict → IsUntouched output last_output) → LeavesRestored laid finding status output last_output
  leaves status is_done turned_down kept first_lines = record {
    output = record {
      made = record {
        output = record {
          told = subst (λ (h : Option Image). IfSome h (λ image. IsSome last_output.held)) both.untouched.held done.told;
          crash = IfSome_then output.held synced (λ image s.
              and_then (stays {old = output} {new = opened} both.untouched.held both.untouched.history (here image (Makes laid room done.verdict image) output s))
              (done.crash image (still_synced image output opened both.untouched s)));
          made = λ zero. subst (λ (h : Option Image). IfSome h (λ image. IfSome last_output.held (λ now. Makes laid room done.verdict image now × HoldsSynced now last_output)))
              both.untouched.held (where_done result done.made (is_done zero));
          refused = turned_down;
        };
        untouched = λ early. untouched (done.untouched early);
      };
      kept = kept;
    };
    first_lines = first_lines;
  }

  abbrev first : Objects
  first = record others { source = source; output = output }

  abbrev last : Objects
  last = record others { source = last_source; notes = notes; output = last_output }

  stands : Stands (restore_by IsVerdictOn is_early laid file path) first last
  stands = record {
    followed = record { source = source_used; out = tt; input = tt; output = output_used; third = tt };
    order = record { input = tt; output = λ _. (keeps.access ∙ both.source_access, tt); third = tt; out = tt };
    kept = record { source = tt; out = refl; input = refl; output = tt; third = refl };
    reads = tt;
  }

  -- it came to an answer
  finished : (status : ℕ) (line : List ℕ) → status ≤ 4 → IsTrue (is_possible (restore_by IsVerdictOn is_early laid file path) status)
      → restore_answer done.verdict ≡ record { status = status; out = []; notes = line }
      → (status ≡ 0 → IsDone result) → LeavesRestored laid finding status output last_output
      → IsFinished (restore_by IsVerdictOn is_early laid file path) first last status line
  finished status line low possible answer is_done left =
      finished_early (restore_by IsVerdictOn is_early laid file path) first last stands finding found refl status line low possible answer
      (record { source = keeps.access ∙ both.source_access; input = tt; output = place.access ∙ both.output_access; third = tt }) (λ _. tt)
      (λ zero. subst (λ (l : Option (List ℕ)). IfSome l (λ text. last_source.left ≡ Some [])) both.left (where_done result done.ended (is_done zero))) left

  -- it came to an outcome, or was stopped
  made : result ≡ Ok tt → IsFinished (restore_by IsVerdictOn is_early laid file path) first last 0 []
  made is =
      finished 0 [] (lit≤ tt) refl (answer_accepted Lawful done.verdict (subst (λ (r : Result (Unit {0}) RestoreFault). AnswersVerdict Lawful r done.verdict) is done.answer))
      (λ _. rw is tt) (leaves 0 (λ _. rw is tt) (λ either. absurd (elim either [ inl e ↦ omega arith | inr e ↦ omega arith ]))
      (λ some. absurd (some refl)) (λ e. absurd (omega arith)))

  refuses : (why : TextFault) → result ≡ Err (fault.Text why)
      → IsFinished (restore_by IsVerdictOn is_early laid file path) first last (ending_status (Refused why)) (ending_line (Refused why))
  refuses why is =
      let answer : IsRefused why done.verdict = subst (λ (r : Result (Unit {0}) RestoreFault). AnswersVerdict Lawful r done.verdict) is done.answer in
      let held = spared (fault.Text why) is tt in
      finished 3 _ (lit≤ tt) refl (answer_refused why done.verdict answer)
      (λ zero. absurd (omega arith)) (leaves 3 (λ zero. absurd (omega arith)) (λ _. held) (λ _ _. held)
      (λ _ early. untouched (at_fault (λ fault. IsOfFirstLines fault → IsUntouched opened last_output) result (fault.Text why) is done.first_lines (early_line why done.verdict answer early))))

  lacks_room : (need blocks : ℕ) → result ≡ Err (fault.NoRoom need blocks)
      → IsFinished (restore_by IsVerdictOn is_early laid file path) first last (ending_status (NoRoom need blocks)) (ending_line (NoRoom need blocks))
  lacks_room need blocks is =
      let held = spared (fault.NoRoom need blocks) is tt in
      finished 4 _ (lit≤ tt) refl (answer_no_room need blocks done.verdict (subst (λ (r : Result (Unit {0}) RestoreFault). AnswersVerdict Lawful r done.verdict) is done.answer))
      (λ zero. absurd (omega arith)) (leaves 4 (λ zero. absurd (omega arith)) (λ _. held) (λ _ _. held) (λ e. absurd (omega arith)))

  stopped : (stop : Stop) → HasCause (restore_by IsVerdictOn is_early laid file path) first last stop → (last_output.faults ≡ output.faults → HoldsOldOrNone output last_output)
      → IsStopped (restore_by IsVerdictOn is_early laid file path) first last stop
  stopped stop cause kept =
      stopped_early (restore_by IsVerdictOn is_early laid file path) first last stands finding found refl stop (by_stop (λ s. IsTrue (is_possible (restore_by IsVerdictOn is_early laid file path) s)) stop refl refl refl) cause
      (high (stop_status stop) (stop_status-low stop)) (high 6 (lit≤ tt))
    where
      high : (status : ℕ) → 5 ≤ status → LeavesRestored laid finding status output last_output
      high status five = leaves status (λ zero. absurd (omega arith)) (λ either. absurd (elim either [ inl e ↦ omega arith | inr e ↦ omega arith ])) (λ _. kept) (λ e. absurd (omega arith))

  -- by the fault
  abbrev Stops : Stop → Type 0
  Stops stop = IsStopped (restore_by IsVerdictOn is_early laid file path) first last stop

  of_memory : result ≡ Err fault.Memory → Stops Memory
  of_memory is = stopped Memory tt (λ _. spared fault.Memory is tt)

  of_source : result ≡ Err fault.Source → Rose attached.faults last_source.faults → Stops Stream
  of_source is rose = stopped Stream (inl (rw both.source_faults at rose)) (λ _. spared fault.Source is tt)

  of_device : output.faults ≡ 0 → Rose opened.faults last_output.faults → Stops Device
  of_device fresh rose =
      let risen : Rose output.faults last_output.faults = rw both.output_faults at rose in
      stopped Device (inr (inl risen)) (λ same. absurd (not_risen output.faults last_output.faults fresh same risen))

  -- whatever its result
  abbrev RestoreEnds : Result (Unit {0}) RestoreFault → Type 0
  RestoreEnds r = MatchResult (restore_ended r) (λ ending. IsFinished (restore_by IsVerdictOn is_early laid file path) first last (ending_status ending) (ending_line ending)) Stops

  ends_by : (r : Result (Unit {0}) RestoreFault) → result ≡ r → output.faults ≡ 0
      → CountsRestore r attached.faults last_source.faults opened.faults last_output.faults → RestoreEnds r
  ends_by (Ok answer) is fresh counts = made is
  ends_by (Err fault.Memory) is fresh counts = of_memory is
  ends_by (Err fault.Source) is fresh counts = of_source is counts.0.0
  ends_by (Err fault.Device) is fresh counts = of_device fresh counts.1.0
  ends_by (Err (fault.Text why)) is fresh counts = refuses why is
  ends_by (Err (fault.NoRoom need blocks)) is fresh counts = lacks_room need blocks is

  pub ends : output.faults ≡ 0 → CountsRestore result attached.faults last_source.faults opened.faults last_output.faults → RestoreEnds result
  ends = ends_by result refl

-- the same for each kind
pub ends_as : (kind : Kind) (version : ℕ) (file path : List ℕ) (others : Objects) (notes : SinkState) (source attached last_source : SourceState) (output opened last_output : DeviceState)
    → IsSynced output → AreAttached file path source attached output opened → IfSome opened.held (λ image. length image ≡ opened.blocks)
    → KeepsPlace opened last_output → KeepsSource attached last_source → (result : Result (Unit {0}) RestoreFault)
    → IsRestoredAs kind version result attached last_source opened last_output → output.faults ≡ 0
    → CountsRestore result attached.faults last_source.faults opened.faults last_output.faults
    → MatchResult (restore_ended result) (λ ending. IsFinished (restore kind version file path) (record others { source = source; output = output })
    (record others { source = last_source; notes = notes; output = last_output }) (ending_status ending) (ending_line ending))
    (IsStopped (restore kind version file path) (record others { source = source; output = output }) (record others { source = last_source; notes = notes; output = last_output }))
ends_as Thin version = ends IsLawfulShape IsPoolTextVerdict is_pool_text_early laid_shape
ends_as Cache version = ends IsLawfulCache (IsCacheVerdict version) (is_cache_early version) (λ m room. laid_cache m version room)
ends_as Era version = ends IsLawfulEra IsEraVerdict is_era_early laid_era

-- an object couldn't be attached, for each kind
pub not_attached_as : (kind : Kind) (version : ℕ) (file path : List ℕ) (others : Objects) (notes : SinkState) (source last_source : SourceState) (output last_output : DeviceState)
    → IsSynced output → TextsHaveVerdicts kind version → (stop : Stop) → AreUnattached file path source last_source output last_output stop
    → IsStopped (restore kind version file path) (record others { source = source; output = output })
    (record others { source = last_source; notes = notes; output = last_output }) stop
not_attached_as Thin version file path others notes source last_source output last_output synced = not_attached IsLawfulShape IsPoolTextVerdict is_pool_text_early laid_shape file path others notes source last_source output last_output synced
not_attached_as Cache version file path others notes source last_source output last_output synced = not_attached IsLawfulCache (IsCacheVerdict version) (is_cache_early version) (λ m room. laid_cache m version room) file path others notes source last_source output last_output synced
not_attached_as Era version file path others notes source last_source output last_output synced = not_attached IsLawfulEra IsEraVerdict is_era_early laid_era file path others notes source last_source output last_output synced

-- what is left where the line of a refusal is lost
pub left_lost : (Made : Image → Image → Type 0) (unwritten : Bool) (status : ℕ) (old new : DeviceState) → LeavesMade Made unwritten status old new → LeavesMade Made unwritten 6 old new
left_lost Made unwritten status old new left = record {
  output = record {
    told = left.output.told;
    crash = left.output.crash;
    made = λ zero. absurd (omega arith);
    refused = λ either. absurd (elim either [ inl e ↦ omega arith | inr e ↦ omega arith ]);
  };
  untouched = left.untouched;
}

pub last_lost : (Made : Image → Image → Type 0) (unwritten : Bool) (status : ℕ) (old new : DeviceState) → status ≢ 0 → LeavesMadeLast Made unwritten status old new
    → LeavesMadeLast Made unwritten 6 old new
last_lost Made unwritten status old new some left = record {
  made = left_lost Made unwritten status old new left.made;
  kept = λ _. left.kept some;
}

restored_lost : {M : Type 0} (laid : M → ℕ → Laid) (judged : Judged M) (status : ℕ) (old new : DeviceState) → status ≢ 0 → LeavesRestored laid judged status old new
    → LeavesRestored laid judged 6 old new
restored_lost laid judged status old new some left = record {
  output = last_lost _ _ status old new some left.output;
  first_lines = λ e. absurd (omega arith);
}

pub lost_as : (kind : Kind) (version : ℕ) (file path : List ℕ) (before after : Objects) (finding : (restore kind version file path).Finding) (status : ℕ) → status ≢ 0
    → (restore kind version file path).leaves finding before after status → (restore kind version file path).leaves finding before after 6
lost_as Thin version file path before after judged status some left = restored_lost laid_shape judged status before.output after.output some left
lost_as Cache version file path before after judged status some left = restored_lost (λ m room. laid_cache m version room) judged status before.output after.output some left
lost_as Era version file path before after judged status some left = restored_lost laid_era judged status before.output after.output some left

-- before anything was done
pub restore_at_rest : {M : Type 0} (IsVerdictOn : List ℕ → ℕ → Verdict M → Type 0) (is_early : List ℕ → ℕ → Bool) (laid : M → ℕ → Laid)
    (file path : List ℕ) (before after : Objects) (source : SourceState) (output : DeviceState)
    → IsSynced output → HaveVerdicts IsVerdictOn → output.access ≡ 0
    → (judged : Judged M) × ((restore_by IsVerdictOn is_early laid file path).finds (record before { source = source; output = output }) (record after { source = source; output = output }) judged)
    × ((restore_by IsVerdictOn is_early laid file path).leaves judged (record before { source = source; output = output }) (record after { source = source; output = output }) 6)
restore_at_rest {M} IsVerdictOn is_early laid file path before after source output synced verdicts closed =
    let room = room_in output.held in
    let v = verdicts (text_in source.left) room in
    let judged : Judged M = record { room = room; verdict = v.0; is_early = is_early (text_in source.left) room } in (
      judged,
      (
        record { told = room-told output.held; attached = λ e. absurd (omega arith) },
        verdict-told IsVerdictOn is_early source.left room v.0 v.1,
      ),
      untouched_restored laid judged 6 output output synced (record { held = refl; history = refl }) (λ e. omega arith),
    )
