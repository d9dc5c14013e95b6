-- What the work of a writeback comes to, over plain variables.
use Rattle.std.proofs.Common.{◌≡◌, ◌≢◌, ◌⊎◌, inl, inr, ℕ, ◌≤◌, ◌<◌, true, false, nat_eq, IsTrue, List, [], ◌∷◌, length, Option, Some, None, IfSome, Result, refl, sym, ap, ◌∙◌, subst, arith}
use Rattle.std.specs.Prelude.{IsSome, slice_get}
use Rattle.std.specs.Option.{is_some, option_map_or}
use Rattle.std.specs.List.Sorted.{IsPermutation}
use Rattle.std.proofs.lemmas.List.Sorted.{length_permutation}
use Rattle.std.proofs.lemmas.Bool.{lt-ltb, le-ltb}
use Rattle.std.proofs.lemmas.Option.{IfSome_then}
use Rattle.pd_kinds.specs.declared.kind.Kind.TheVariants.{Cache}
use Rattle.pd_kinds.specs.declared.kind.Stage.TheVariants.{Whole}
use Rattle.pd_kinds.specs.Crash.{HoldsSynced, IsSynced, IsUntouched, LeavesNow, LeavesOnly}
use Rattle.pd_kinds.specs.Meaning.{cache_meaning}
use Rattle.pd_kinds.specs.Objects.{present_moment, DeviceState, SinkState, Rose}
use Rattle.pd_kinds.specs.Rule.{Reported, report_of}
use Rattle.pd_kinds.specs.Stages.{faults}
use Rattle.pd_kinds.proofs.CrashLemmas.{and_then, stays, still_tells, left_now, left_synced}
use Rattle.pd_grammar.specs.Lines.{no_room_line, reported_lines}
use Rattle.pd_answers.specs.Terms.{Answer, Objects, AreFresh, is_possible}
use Rattle.pd_answers.specs.Writebacks.{CachedBlock, blocks_each, copied, fast_need, hot_blocks, is_block_size_bad, origin_need, settled, AllTold, KeepsOthers, LeavesWrittenBack, WritebackFound, block_size_line, copied_line, writeback, writeback_answer}
use Rattle.pd_answers.specs.Outputs.{IsWorkDone}
use Rattle.pd_writeback.specs.declared.making.WriteFault.{WriteFault}
use Rattle.pd_writeback.specs.declared.plan.Plan.{Plan}
use Rattle.pd_writeback.specs.Plan.{IsOfCopy, IsOfMarking, IsOfPlanning, IsFound, IsMade, IsPlanOf, IsUnplanned, plan_hot}
use Rattle.pd_writeback.specs.declared.making.WriteFault.TheVariants as w
use Rattle.pd_tools.specs.declared.ending.Stop.{Stop}
use Rattle.pd_tools.specs.declared.ending.Stop.TheVariants.{Device, Memory}
use Rattle.pd_tools.specs.Ending.{plan_ended}
use Rattle.pd_tools.specs.Query.{IsUnread}
use Rattle.pd_tools.specs.Opened.{AreOpened, Devices, devices, devices_of}
use Rattle.pd_tools.specs.Task.{AreAlone, IsAtRest, IsDone, IsEnded, IsHalted, Works}
use Rattle.pd_tools.specs.Writeback.{HasCopied, HasMarked, IsWritten}
use Rattle.pd_tools.proofs.Answered.{not_risen}
use Rattle.pd_tools.proofs.Checks.{told, none_at_super, one_told, two_told}
use Rattle.pd_tools.proofs.Restores.{Image, here, still_synced}
use Rattle.pd_tools.proofs.Laying.{blocks_at_rest, blocks_of, has_blocks}
use Rattle.pd_tools.proofs.Tasks.{and_same, halted_at_rest, read_alone, read_by, unread, unread_first}
use Rattle.pd_tools.proofs.Works.{not_done, still_done}

-- what is right to find of the metadata
abbrev IsRight : Option Image → Reported → ℕ → List CachedBlock → Type 0
IsRight held report size hot = IfSome held (λ image. (report ≡ report_of (faults Cache Whole image))
    × (size ≡ (cache_meaning image).block_size) × (hot ≡ hot_blocks (cache_meaning image)))

-- that of what is told
report_in : Option Image → Reported
report_in held = option_map_or (λ (image : Image). report_of (faults Cache Whole image)) held (report_of [])

size_in : Option Image → ℕ
size_in held = option_map_or (λ (image : Image). (cache_meaning image).block_size) held 0

hot_in : Option Image → List CachedBlock
hot_in held = option_map_or (λ (image : Image). hot_blocks (cache_meaning image)) held []

sizes_told : (held : Option Image) → IfSome held (λ image. (size_in held ≡ (cache_meaning image).block_size) × (hot_in held ≡ hot_blocks (cache_meaning image)))
unfolding size_in hot_in
sizes_told None = tt
sizes_told (Some image) = (refl, refl)

right_by : (held : Option Image) (report : Reported) → IfSome held (λ image. report ≡ report_of (faults Cache Whole image)) → IsRight held report (size_in held) (hot_in held)
right_by held report is = two_told held (λ image same sizes. (same, sizes.0, sizes.1)) is (sizes_told held)

report_told : (held : Option Image) → IfSome held (λ image. report_in held ≡ report_of (faults Cache Whole image))
unfolding report_in
report_told held = told held (λ image. report_of (faults Cache Whole image)) (report_of [])

-- whatever is told
pub if_any : {X : Type 0} {P : X → Type 0} (o : Option X) → ((x : X) → P x) → IfSome o P
if_any None all = tt
if_any (Some x) all = all x

-- what is there before the first call
pub here_kept : (k : ℕ) (hot : List CachedBlock) (image : Image) (device : DeviceState) → HoldsSynced image device → LeavesNow (λ left firsts. KeepsOthers k hot image left) device
here_kept k hot image device synced left firsts leaves =
    let same : left ≡ image = left_synced image left (present_moment image device.history) refl synced.unsynced (left_now device image left firsts synced.held leaves).0 in
    record { number = ap length same; others = λ b none. ap (λ (i : Image). slice_get i b) same }

-- metadata and an origin that were left alone, under each status but 0
left_alone : (found : WritebackFound) (before after : Objects) (status : ℕ) → IsSynced before.input → IsSynced before.output → status ≢ 0 → after.out ≡ before.out
    → IsUntouched before.input after.input → IsUntouched before.output after.output → LeavesWrittenBack found before after status
left_alone found before after status meta_synced origin_synced some unput meta origin = record {
  metadata_told = still_tells before.input after.input (ap is_some meta.held);
  origin_told = still_tells before.output after.output (ap is_some origin.held);
  origin = IfSome_then before.output.held origin_synced (λ image s.
      stays origin.held origin.history (here_kept (blocks_each found.block_size) found.hot image before.output s));
  metadata = IfSome_then before.input.held meta_synced (λ image s. stays meta.held meta.history (here image (λ made. made ≡ settled image) before.input s));
  order = if_any before.input.held (λ i. if_any before.output.held (λ o. if_any before.third.held (λ f. inl meta)));
  copied_all = λ done. absurd (not_done before after status some unput done);
  marked = λ done. absurd (not_done before after status some unput done);
  origin_kept = λ _ _. if_any before.input.held (λ i. if_any before.output.held (λ o. if_any before.third.held (λ f. inl origin)));
  metadata_kept = λ _. if_any before.input.held (λ i. inl meta);
  unchanged = if_any before.input.held (λ i _. meta);
  refused = λ _. (meta, origin);
  wanting = λ _. (meta, origin);
  cold = λ _. (meta, origin);
}

-- what is left where a line is lost
pub writeback_lost : (before after : Objects) (found : WritebackFound) (status : ℕ) → status ≢ 0 → LeavesWrittenBack found before after status → LeavesWrittenBack found before after 6
writeback_lost before after found status some left = record {
  metadata_told = left.metadata_told;
  origin_told = left.origin_told;
  origin = left.origin;
  metadata = left.metadata;
  order = left.order;
  copied_all = λ done. left.copied_all (still_done before after status done);
  marked = λ done. left.marked (still_done before after status done);
  origin_kept = left.origin_kept;
  metadata_kept = left.metadata_kept;
  unchanged = left.unchanged;
  refused = left.refused;
  wanting = λ e. absurd (omega arith);
  cold = left.cold;
}

-- what is found
abbrev finding : ℕ → ℕ → Reported → ℕ → List CachedBlock → WritebackFound
finding fast_blocks origin_blocks report size hot = record { report = report; block_size = size; hot = hot; fast_blocks = fast_blocks; origin_blocks = origin_blocks }

-- what the answer to a report without faults comes to
module _ (fast_blocks origin_blocks size : ℕ) (hot : List CachedBlock) where
  abbrev sound_finding : WritebackFound
  sound_finding = finding fast_blocks origin_blocks (report_of []) size hot

  answer_size : is_block_size_bad size ≡ true → writeback_answer sound_finding ≡ record { status = 1; out = []; notes = block_size_line }
  answer_size bad = rw bad refl

  answer_fast : is_block_size_bad size ≡ false → fast_blocks < fast_need (blocks_each size) hot
      → writeback_answer sound_finding ≡ record { status = 4; out = []; notes = no_room_line (fast_need (blocks_each size) hot) fast_blocks }
  answer_fast good lacking = rw (good, lt-ltb fast_blocks (fast_need (blocks_each size) hot) lacking) refl

  answer_origin : is_block_size_bad size ≡ false → fast_need (blocks_each size) hot ≤ fast_blocks → origin_blocks < origin_need (blocks_each size) hot
      → writeback_answer sound_finding ≡ record { status = 4; out = []; notes = no_room_line (origin_need (blocks_each size) hot) origin_blocks }
  answer_origin good fits lacking =
      rw (good, le-ltb fast_blocks (fast_need (blocks_each size) hot) fits, lt-ltb origin_blocks (origin_need (blocks_each size) hot) lacking) refl

  answer_copied : is_block_size_bad size ≡ false → fast_need (blocks_each size) hot ≤ fast_blocks → origin_need (blocks_each size) hot ≤ origin_blocks
      → writeback_answer sound_finding ≡ record { status = 0; out = copied_line (length hot); notes = [] }
  answer_copied good fits fits' =
      rw (good, le-ltb fast_blocks (fast_need (blocks_each size) hot) fits, le-ltb origin_blocks (origin_need (blocks_each size) hot) fits') refl

-- the report of no faults is right where there are none
none_right : (held : Option Image) → IfSome held (λ image. faults Cache Whole image ≡ []) → IfSome held (λ image. report_of [] ≡ report_of (faults Cache Whole image))
none_right held none = one_told held (λ image is. sym (ap report_of is)) none

-- before anything was written
pub writeback_rests : (metadata fast origin : List ℕ) (before after : Objects) → AreFresh before → AreAlone before after → IsAtRest (writeback metadata fast origin) before after
writeback_rests metadata fast origin before after fresh alone =
    let held = before.input.held in
    record {
      finding = finding (blocks_of before.third after.third) (blocks_of before.output after.output) (report_in held) (size_in held) (hot_in held);
      found = record {
        fast = blocks_at_rest before.third after.third alone.third.held alone.third_measured;
        origin = blocks_at_rest before.output after.output alone.output.held alone.output_measured;
        told = right_by held (report_in held) (report_told held);
      };
      leaves = λ status some. left_alone _ before after status fresh.input.2 fresh.output.2 some alone.out alone.input alone.output;
    }

-- devices that were attached, and of which the metadata was read
module _ (metadata fast origin : List ℕ) (before : Objects) (opened : Devices) (notes : SinkState) (meta : DeviceState) (fresh : AreFresh before)
    (was : AreOpened (writeback metadata fast origin).uses (devices_of before) opened) (same : IsUntouched opened.input meta)
    (origin_measured : IfSome opened.output.held (λ image. length image ≡ opened.output.blocks)) (fast_measured : IfSome opened.third.held (λ image. length image ≡ opened.third.blocks)) where
  abbrev read_after : Objects
  read_after = read_by before opened notes meta

  rest_here : IsAtRest (writeback metadata fast origin) before read_after
  rest_here = writeback_rests metadata fast origin before read_after fresh
      (read_alone (writeback metadata fast origin).uses before opened notes meta was same (λ _. origin_measured) (λ _. fast_measured))

  -- it came to an answer
  read_ended : (report : Reported) (size : ℕ) (hot : List CachedBlock) → IsRight before.input.held report size hot → (status : ℕ) (line : List ℕ) → status ≢ 0
      → IsTrue (is_possible (writeback metadata fast origin) status)
      → writeback_answer (finding opened.third.blocks opened.output.blocks report size hot) ≡ record { status = status; out = []; notes = line }
      → IsEnded (writeback metadata fast origin) before read_after status line
  read_ended report size hot right status line some possible answer = record {
    finding = finding opened.third.blocks opened.output.blocks report size hot;
    found = record {
      fast = has_blocks before.third opened.third opened.third opened.third.blocks refl was.third.untouched.held fast_measured refl;
      origin = has_blocks before.output opened.output opened.output opened.output.blocks refl was.output.untouched.held origin_measured refl;
      told = right;
    };
    answer = answer;
    possible = possible;
    no_line = λ zero. absurd (some zero);
    leaves = left_alone _ before read_after status fresh.input.2 fresh.output.2 some refl (and_same was.input.untouched same) was.output.untouched;
  }

  -- the metadata wasn't read to a report
  pub writeback_unread : (stop : Stop) → IsUnread Cache Whole opened.input meta stop → IsHalted (writeback metadata fast origin) before read_after stop
  writeback_unread stop is =
      unread (writeback metadata fast origin) before read_after Cache Whole stop rest_here (unread_first Cache Whole meta was.input stop is) refl refl (λ wants. wants)

  -- it has faults
  pub writeback_faulty : (report : Reported) → IfSome opened.input.held (λ image. report ≡ report_of (faults Cache Whole image)) → nat_eq report.total 0 ≡ false
      → IsEnded (writeback metadata fast origin) before read_after 1 (reported_lines report)
  writeback_faulty report right faulty =
      read_ended report (size_in before.input.held) (hot_in before.input.held) (right_by before.input.held report (rw was.input.untouched.held at right))
      1 (reported_lines report) (λ e. omega arith) refl (rw faulty refl)

  -- it has none, and there is no plan
  module _ (sound : IfSome opened.input.held (λ image. faults Cache Whole image ≡ [])) where
    sound_here : IfSome before.input.held (λ image. faults Cache Whole image ≡ [])
    sound_here = rw was.input.untouched.held at sound

    found_right : (size : ℕ) (hot : List CachedBlock) → IsFound opened.input.held size hot → IsRight before.input.held (report_of []) size hot
    found_right size hot found =
        two_told before.input.held (λ image is sizes. (is, sizes.0, sizes.1)) (none_right before.input.held sound_here) (rw was.input.untouched.held at found.told)

    pub writeback_unplanned : (fault : WriteFault) → IsUnplanned opened.input.held opened.output.blocks opened.third.blocks fault
        → IsOfPlanning fault opened.input.faults meta.faults → Works (writeback metadata fast origin) before read_after (plan_ended fault)
    writeback_unplanned w.Memory un counts =
        halted_at_rest (writeback metadata fast origin) before read_after Memory rest_here refl (record {
          past_super = λ e. absurd cc;
          sound = one_told before.input.held (λ image is. none_at_super Cache Whole image is) sound_here;
        })
    writeback_unplanned w.Meta un counts = halted_at_rest (writeback metadata fast origin) before read_after Device rest_here refl (inl (rw was.input.faults at counts.0))
    writeback_unplanned w.Origin un counts = absurd un
    writeback_unplanned w.Fast un counts = absurd un
    writeback_unplanned w.BlockSize (size, hot, un) counts =
        read_ended (report_of []) size hot (found_right size hot un.found) 1 block_size_line (λ e. omega arith) refl
        (answer_size opened.third.blocks opened.output.blocks size hot un.bad)
    writeback_unplanned (w.NoRoom need blocks) (size, hot, un) counts = elim un.lacks [
      | inl fast ↦ rw (fast.need_is, fast.blocks_are)
          (read_ended (report_of []) size hot (found_right size hot un.found) 4 _ (λ e. omega arith) refl
          (answer_fast opened.third.blocks opened.output.blocks size hot un.whole fast.lacking))
      | inr rest ↦ rw (rest.need_is, rest.blocks_are)
          (read_ended (report_of []) size hot (found_right size hot un.found) 4 _ (λ e. omega arith) refl
          (answer_origin opened.third.blocks opened.output.blocks size hot un.whole rest.on_fast rest.lacking))
    ]

no_blocks : {X : Type 0} (xs ys : List X) → IsPermutation xs ys → xs ≡ [] → ys ≡ []
no_blocks xs [] same none = refl
no_blocks xs (y ∷ ys) same none =
    let long : length (y ∷ ys) ≡ length xs = length_permutation xs (y ∷ ys) same in
    absurd (omega (arith, ap length none))

-- devices that a plan was made for, and that were written by it
module _ {T E : Type 0} (metadata fast origin : List ℕ) (before after : Objects) (opened : Devices) (meta : DeviceState) (fresh : AreFresh before) (unput : after.out ≡ before.out)
    (was : AreOpened (writeback metadata fast origin).uses (devices_of before) opened) (same : IsUntouched opened.input meta) (unfailed : meta.faults ≡ opened.input.faults)
    (sound : IfSome opened.input.held (λ image. faults Cache Whole image ≡ []))
    (origin_measured : IfSome opened.output.held (λ image. length image ≡ opened.output.blocks)) (fast_measured : IfSome opened.third.held (λ image. length image ≡ opened.third.blocks))
    (size : ℕ) (hot : List CachedBlock) (plan : Plan) (made : IsMade opened.input.held opened.input.blocks opened.output.blocks opened.third.blocks size hot plan)
    (result : Result T E) (written : IsWritten plan result (devices meta opened.output opened.third) (devices_of after)) where
  abbrev found_here : WritebackFound
  found_here = sound_finding opened.third.blocks opened.output.blocks size hot

  abbrev Copied : Type 0
  Copied = HasCopied plan (devices meta opened.output opened.third) (devices_of after)

  abbrev Marked : Type 0
  Marked = HasMarked plan (devices meta opened.output opened.third) (devices_of after)

  meta_same : IsUntouched before.input meta
  meta_same = and_same was.input.untouched same

  sound_first : IfSome before.input.held (λ image. faults Cache Whole image ≡ [])
  sound_first = rw was.input.untouched.held at sound

  of_first : IfSome before.input.held (λ image. IsPlanOf image plan)
  of_first = rw was.input.untouched.held at made.of

  right_first : IsRight before.input.held (report_of []) size hot
  right_first = two_told before.input.held (λ image is sizes. (is, sizes.0, sizes.1)) (none_right before.input.held sound_first) (rw was.input.untouched.held at made.found.told)

  found_right_here : (out : SinkState) → (writeback metadata fast origin).finds before (record after { out = out }) found_here
  found_right_here out = record {
    fast = has_blocks before.third opened.third after.third opened.third.blocks refl was.third.untouched.held fast_measured written.fast_kept.blocks;
    origin = has_blocks before.output opened.output after.output opened.output.blocks refl was.output.untouched.held origin_measured written.origin_place.blocks;
    told = right_first;
  }

  answered : writeback_answer found_here ≡ record { status = 0; out = copied_line (length hot); notes = [] }
  answered = answer_copied opened.third.blocks opened.output.blocks size hot made.whole made.room.on_fast made.room.on_origin

  -- all is on the origin, where the devices tell it
  all_copied : Copied → AllTold before (λ image base held. HoldsSynced (copied image base held) after.output)
  all_copied has = two_told before.input.held (λ image of is.
      IfSome_then before.output.held fresh.output.2 (λ base s.
      one_told before.third.held (λ held all. all base (still_synced base before.output opened.output was.output.untouched s))
      (subst (λ (h : Option Image). IfSome h (λ held. (b : Image) → HoldsSynced b opened.output → HoldsSynced (copied image b held) after.output)) was.third.untouched.held (has image is of))))
      of_first sound_first

  or_copied : (Other : Type 0) → Copied → AllTold before (λ image base held. Other ⊎ HoldsSynced (copied image base held) after.output)
  or_copied Other has = one_told before.input.held (λ i rest. one_told before.output.held (λ b rest'. one_told before.third.held (λ f is. inr is) rest') rest) (all_copied has)

  -- an origin that didn't fail, nor the fast device, has all that was to be copied
  kept_origin : after.output.faults ≡ before.output.faults → after.third.faults ≡ before.third.faults
      → AllTold before (λ image base held. IsUntouched before.output after.output ⊎ HoldsSynced (copied image base held) after.output)
  kept_origin same_origin same_fast = elim written.copies [
    | inl done ↦ or_copied _ done
    | inr rose ↦ absurd (elim rose [
      | inl risen ↦ not_risen before.output.faults after.output.faults fresh.output.1 same_origin (rw was.output.faults at risen)
      | inr risen ↦ not_risen before.third.faults after.third.faults fresh.third.1 same_fast (rw was.third.faults at risen)
    ])
  ]

  all_marked : Marked → IfSome before.input.held (λ image. HoldsSynced (settled image) after.input)
  all_marked has = two_told before.input.held (λ image of s. has image of (still_synced image before.input meta meta_same s)) of_first fresh.input.2

  -- and metadata that didn't fail was left alone, or has nothing dirty
  kept_meta : after.input.faults ≡ before.input.faults → IfSome before.input.held (λ image. IsUntouched before.input after.input ⊎ HoldsSynced (settled image) after.input)
  kept_meta same_meta = elim written.marks [
    | inl alone ↦ if_any before.input.held (λ i. inl (and_same meta_same alone))
    | inr rest ↦ elim rest [
      | inl marked ↦ one_told before.input.held (λ i is. inr is) (all_marked marked)
      | inr risen ↦ absurd (not_risen before.input.faults after.input.faults fresh.input.1 same_meta (rw (unfailed ∙ was.input.faults) at risen))
    ]
  ]

  -- what is left under a status that isn't want of memory
  leaves : (out : SinkState) (status : ℕ) → status ≢ 7 → (IsWorkDone before (record after { out = out }) status → Copied × Marked)
      → LeavesWrittenBack found_here before (record after { out = out }) status
  leaves out status other has = record {
    metadata_told = subst (λ (h : Option Image). IfSome h (λ image. IsSome after.input.held)) meta_same.held written.meta_told;
    origin_told = subst (λ (h : Option Image). IfSome h (λ image. IsSome after.output.held)) was.output.untouched.held written.origin_told;
    origin = IfSome_then before.output.held fresh.output.2 (λ base s.
        and_then (stays was.output.untouched.held was.output.untouched.history (here_kept (blocks_each size) hot base before.output s))
        (subst (λ (k : ℕ). LeavesOnly (λ image firsts. KeepsOthers k hot base image) opened.output after.output) made.each
        (written.origin_crash hot base made.same (still_synced base before.output opened.output was.output.untouched s))));
    metadata = two_told before.input.held (λ image of s.
        and_then (stays meta_same.held meta_same.history (here image (λ made. made ≡ settled image) before.input s))
        (written.meta_crash image of (still_synced image before.input meta meta_same s)))
        of_first fresh.input.2;
    order = elim written.order [
      | inl alone ↦ if_any before.input.held (λ i. if_any before.output.held (λ b. if_any before.third.held (λ f. inl (and_same meta_same alone))))
      | inr done ↦ or_copied _ done
    ];
    copied_all = λ done. all_copied (has done).0;
    marked = λ done. all_marked (has done).1;
    origin_kept = kept_origin;
    metadata_kept = kept_meta;
    unchanged = two_told before.input.held (λ image of s unchanged. and_same meta_same (written.unchanged image of (meta_same.held ∙ s.held) unchanged)) of_first fresh.input.2;
    refused = λ some. absurd (some (ap (λ (a : Answer). a.status) answered));
    wanting = λ seven. absurd (other seven);
    cold = λ none.
        let both = written.cold (no_blocks hot (plan_hot plan) made.same none) in
        (and_same meta_same both.0, and_same was.output.untouched both.1);
  }

  -- a device failed
  pub writeback_failed : Rose meta.faults after.input.faults ⊎ (Rose opened.output.faults after.output.faults ⊎ Rose opened.third.faults after.third.faults)
      → IsHalted (writeback metadata fast origin) before after Device
  writeback_failed rose = record {
    finding = found_here;
    found = found_right_here after.out;
    possible = refl;
    cause = elim rose [
      | inl risen ↦ inl (rw (unfailed ∙ was.input.faults) at risen)
      | inr rest ↦ elim rest [ inl risen ↦ inr (inl (rw was.output.faults at risen)) | inr risen ↦ inr (inr (rw was.third.faults at risen)) ]
    ];
    leaves = leaves after.out 5 (λ e. omega arith) (λ worked. absurd (not_done before after 5 (λ e. omega arith) unput worked));
  }

  -- all was written
  pub writeback_done : Copied → Marked → IsDone (writeback metadata fast origin) before after (copied_line (length hot))
  writeback_done has marked = record {
    finding = found_here;
    found = found_right_here;
    answer = answered;
    named = refl;
    possible = refl;
    loud = λ e. absurd cc;
    loud_lost = λ e. absurd cc;
    unspared = λ some. some (ap (λ (a : Answer). a.status) answered);
    leaves = λ out status which touched. leaves out status (λ seven. elim which [ inl e ↦ omega arith | inr e ↦ omega arith ]) (λ _. (has, marked));
  }

-- which device failed
pub marking_rose : (old new : ℕ) (fault : WriteFault) → IsOfMarking fault old new → Rose old new
marking_rose old new w.Memory is = absurd is
marking_rose old new w.Meta is = is.0
marking_rose old new w.Origin is = absurd is
marking_rose old new w.Fast is = absurd is
marking_rose old new w.BlockSize is = absurd is
marking_rose old new (w.NoRoom need blocks) is = absurd is

pub copying_rose : (origin origin' fast fast' : ℕ) (fault : WriteFault) → IsOfCopy fault origin origin' fast fast' → Rose origin origin' ⊎ Rose fast fast'
copying_rose origin origin' fast fast' w.Memory is = absurd is
copying_rose origin origin' fast fast' w.Meta is = absurd is
copying_rose origin origin' fast fast' w.Origin is = inl is.0.0
copying_rose origin origin' fast fast' w.Fast is = inr is.1.0
copying_rose origin origin' fast fast' w.BlockSize is = absurd is
copying_rose origin origin' fast fast' (w.NoRoom need blocks) is = absurd is
