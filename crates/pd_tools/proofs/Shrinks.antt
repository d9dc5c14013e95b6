-- What the work of a shrink comes to, over plain variables.
use Rattle.std.proofs.Common.{◌≡◌, ◌≢◌, ◌⊎◌, inl, inr, ℕ, Bool, not, nat_eq, false, IsTrue, List, [], length, map, Option, Some, None, IfSome, Result, Err, refl, sym, ap, ◌∙◌, subst, arith}
use Rattle.std.specs.Prelude.{IsSome}
use Rattle.std.specs.Option.{is_some}
use Rattle.std.proofs.lemmas.Option.{IfSome_then}
use Rattle.pd_kinds.specs.declared.kind.Kind.TheVariants.{Thin}
use Rattle.pd_kinds.specs.declared.kind.Stage.TheVariants.{Counts}
use Rattle.pd_kinds.specs.Crash.{HoldsOldOrNone, HoldsSynced, IsSynced, IsUntouched}
use Rattle.pd_kinds.specs.Image.{room_of}
use Rattle.pd_kinds.specs.Objects.{DeviceState, SinkState, Rose}
use Rattle.pd_kinds.specs.Rule.{Reported, report_of}
use Rattle.pd_kinds.specs.Stages.{faults}
use Rattle.pd_kinds.proofs.CrashLemmas.{and_then, stays, still_tells}
use Rattle.pd_grammar.specs.Lines.{no_room_line, reported_lines}
use Rattle.pd_answers.specs.Terms.{Answer, Objects, AreFresh, is_possible}
use Rattle.pd_answers.specs.Writebacks.{blocks_each, block_size_line}
use Rattle.pd_answers.specs.Outputs.{Lays, HoldsMade, IsWorkDone, LeavesMade}
use Rattle.pd_answers.specs.Shrinks.{copy_of_move, data_after, end_of_pool, free_blocks, moves_to, sources, saved_pool, saved_whole, IsGroundOf, LaysShrunk, ShrinkLack, LeavesShrunk, ShrinkFound, ShrinkGround, answer_to, bad_block_size, lack_of, making_after, moved_line, moves_of, no_room, pool_before, shrink, shrink_answer}
use Rattle.pd_restoring.specs.Made.{Ending, IsDone, IsMade, done, lacking}
use Rattle.pd_shrink.specs.declared.making.ShrinkFault.{ShrinkFault}
use Rattle.pd_shrink.specs.declared.plan.Shrink.{Shrink}
use Rattle.pd_shrink.specs.Failing.{IsOfPlanning}
use Rattle.pd_shrink.specs.Planned.{HasLack, IsPlanned, IsUnplanned, content_after}
use Rattle.pd_shrink.specs.declared.making.ShrinkFault.TheVariants as s
use Rattle.pd_tools.specs.declared.ending.Stop.{Stop}
use Rattle.pd_tools.specs.declared.ending.Stop.TheVariants.{Device, Stream, Memory}
use Rattle.pd_tools.specs.Ending.{shrink_ended}
use Rattle.pd_tools.specs.Query.{IsUnread}
use Rattle.pd_tools.specs.Opened.{AreOpened, Devices, devices, devices_of}
use Rattle.pd_tools.specs.Shrink.{FailsToMove, GoesAsFar, HasMoved, IsWritten}
use Rattle.pd_tools.specs.Stop.{stop_status}
use Rattle.pd_tools.specs.Task.{AreAlone, IsAtRest, IsEnded, IsHalted, Works, HasCause}
use Rattle.pd_tools.proofs.Answered.{not_risen}
use Rattle.pd_tools.proofs.Laying.{laid_kept, laid_leaves, blocks_at_rest, blocks_of, has_blocks, has_room, room_at_rest}
use Rattle.pd_tools.proofs.Checks.{none_at_super, one_told, two_told}
use Rattle.pd_tools.proofs.Restores.{Image, left_lost, same_held, still_synced, untouched_output}
use Rattle.pd_tools.proofs.Tasks.{and_same, halted_at_rest, read_alone, read_by, unread, unread_first}
use Rattle.pd_tools.proofs.Writebacks.{here_kept, if_any}
use Rattle.pd_tools.proofs.Works.{not_done, still_done}
use Rattle.pd_tools.specs.Task as work

-- what is right to find of the metadata
abbrev IsRight : {shared : Bool} → ℕ → Option Image → Reported → ShrinkGround shared → Type 0
IsRight blocks held report ground = IfSome held (λ image. (report ≡ report_of (faults Thin Counts image)) × IsGroundOf image blocks ground)

-- the image that is told, if one is
image_in : Option Image → Image
image_in None = []
image_in (Some image) = image

-- what a shrink of an image goes by
abbrev ground_of : (shared : Bool) → Image → ℕ → ℕ → ℕ → ShrinkGround shared
ground_of shared image blocks data_blocks room =
    let saved = saved_whole shared image in
    let end = end_of_pool (saved_pool shared saved) blocks in
    record { saved = saved; end = end; free = free_blocks image end; data_blocks = data_blocks; room = room }

ground_told : (shared : Bool) (held : Option Image) (blocks data_blocks room : ℕ) → IfSome held (λ image. IsGroundOf image blocks (ground_of shared (image_in held) blocks data_blocks room))
unfolding image_in
ground_told shared None blocks data_blocks room = tt
ground_told shared (Some image) blocks data_blocks room = record { saved = refl; end = refl; free = refl }

report_in : Option Image → Reported
report_in held = report_of (faults Thin Counts (image_in held))

report_told : (held : Option Image) → IfSome held (λ image. report_in held ≡ report_of (faults Thin Counts image))
unfolding report_in image_in
report_told None = tt
report_told (Some image) = refl

right_by : {shared : Bool} (blocks : ℕ) (held : Option Image) (report : Reported) (ground : ShrinkGround shared) → IfSome held (λ image. report ≡ report_of (faults Thin Counts image))
    → IfSome held (λ image. IsGroundOf image blocks ground) → IsRight blocks held report ground
right_by blocks held report ground = two_told held (λ image same is. (same, is))

-- an output and a data device that were left alone, under each status but 0
left_alone : {shared : Bool} (found : ShrinkFound shared) (before after : Objects) (status : ℕ) → IsSynced before.output → IsSynced before.third → status ≢ 0 → after.out ≡ before.out
    → IsUntouched before.output after.output → IsUntouched before.third after.third → LeavesShrunk found before after status
left_alone found before after status output_synced pool_synced some unput output pool = record {
  copies_told = still_tells before.third after.third (ap is_some pool.held);
  copies = IfSome_then before.third.held pool_synced (λ image s.
      stays pool.held pool.history (here_kept (blocks_each (pool_before found.ground).block_size) (map copy_of_move (moves_of found.ground)) image before.third s));
  output = untouched_output (LaysShrunk found) (not (nat_eq (shrink_answer found).status 0)) status
      before.output after.output output_synced output some;
  order = if_any before.third.held (λ image. inl output);
  moved = λ worked. absurd (not_done before after status some unput worked);
  made = λ worked. absurd (not_done before after status some unput worked);
  refused = λ _. (output, pool);
  nothing_moved = λ _. pool;
  kept = λ _ _ _. same_held before.output after.output output.held;
  output_spared = λ _ _. output;
  data_spared = λ _ _ _. pool;
}

-- what is left where a line is lost
pub shrink_lost : {shared : Bool} (before after : Objects) (found : ShrinkFound shared) (status : ℕ) → status ≢ 0 → LeavesShrunk found before after status → LeavesShrunk found before after 6
shrink_lost before after found status some left = record {
  copies_told = left.copies_told;
  copies = left.copies;
  output = left_lost _ _ status before.output after.output left.output;
  order = left.order;
  moved = λ worked. left.moved (still_done before after status worked);
  made = λ worked. left.made (still_done before after status worked);
  refused = left.refused;
  nothing_moved = left.nothing_moved;
  kept = λ _. left.kept some;
  output_spared = λ e. absurd (omega arith);
  data_spared = λ e. absurd (omega arith);
}

-- before anything was written
pub shrink_rests : (shared : Bool) (from to pool : List ℕ) (blocks : ℕ) (before after : Objects) → AreFresh before → AreAlone before after → IsAtRest (shrink shared from to pool blocks) before after
shrink_rests shared from to pool blocks before after fresh alone =
    let held = before.input.held in
    let ground = ground_of shared (image_in held) blocks (blocks_of before.third after.third) (room_of (blocks_of before.output after.output)) in
    record {
      finding = record { report = report_in held; ground = ground };
      found = record {
        pool_device = blocks_at_rest before.third after.third alone.third.held alone.third_measured;
        output = room_at_rest before.output after.output alone.output.held alone.output_measured;
        told = right_by blocks held (report_in held) ground (report_told held) (ground_told shared held blocks _ _);
      };
      leaves = λ status some. left_alone _ before after status fresh.output.2 fresh.third.2 some alone.out alone.output alone.third;
    }

-- what the answer to a report without faults comes to
abbrev sound_finding : {shared : Bool} → ShrinkGround shared → ShrinkFound shared
sound_finding ground = record { report = report_of []; ground = ground }

answer_sound : {shared : Bool} (ground : ShrinkGround shared) (lack : Option ShrinkLack) → lack_of ground ≡ lack → shrink_answer (sound_finding ground) ≡ answer_to lack ground
answer_sound ground lack is = ap (λ (l : Option ShrinkLack). answer_to l ground) is

-- the report of no faults is right where there are none
none_right : (held : Option Image) → IfSome held (λ image. faults Thin Counts image ≡ []) → IfSome held (λ image. report_of [] ≡ report_of (faults Thin Counts image))
none_right held none = one_told held (λ image is. sym (ap report_of is)) none

-- devices that were attached, and of which the metadata was read
module _ (shared : Bool) (from to pool : List ℕ) (blocks : ℕ) (before : Objects) (opened : Devices) (notes : SinkState) (meta : DeviceState) (fresh : AreFresh before)
    (was : AreOpened (shrink shared from to pool blocks).uses (devices_of before) opened) (same : IsUntouched opened.input meta)
    (output_measured : IfSome opened.output.held (λ image. length image ≡ opened.output.blocks)) (pool_measured : IfSome opened.third.held (λ image. length image ≡ opened.third.blocks)) where
  abbrev read_after : Objects
  read_after = read_by before opened notes meta

  rest_here : IsAtRest (shrink shared from to pool blocks) before read_after
  rest_here = shrink_rests shared from to pool blocks before read_after fresh
      (read_alone (shrink shared from to pool blocks).uses before opened notes meta was same (λ _. output_measured) (λ _. pool_measured))

  -- it came to an answer, by what it goes by
  read_ended : (ground : ShrinkGround shared) → ground.data_blocks ≡ opened.third.blocks → ground.room ≡ room_of opened.output.blocks
      → (report : Reported) → IsRight blocks before.input.held report ground → (status : ℕ) (line : List ℕ) → status ≢ 0 → IsTrue (is_possible (shrink shared from to pool blocks) status)
      → shrink_answer (record { report = report; ground = ground }) ≡ record { status = status; out = []; notes = line }
      → IsEnded (shrink shared from to pool blocks) before read_after status line
  read_ended ground number room report right status line some possible answer = record {
    finding = record { report = report; ground = ground };
    found = record {
      pool_device = has_blocks before.third opened.third opened.third ground.data_blocks number was.third.untouched.held pool_measured refl;
      output = has_room before.output opened.output opened.output ground.room room was.output.untouched.held output_measured refl;
      told = right;
    };
    answer = answer;
    possible = possible;
    no_line = λ zero. absurd (some zero);
    leaves = left_alone _ before read_after status fresh.output.2 fresh.third.2 some refl was.output.untouched was.third.untouched;
  }

  -- the metadata wasn't read to a report
  pub shrink_unread : (stop : Stop) → IsUnread Thin Counts opened.input meta stop → IsHalted (shrink shared from to pool blocks) before read_after stop
  shrink_unread stop is = unread (shrink shared from to pool blocks) before read_after Thin Counts stop rest_here (unread_first Thin Counts meta was.input stop is) refl refl (λ wants. wants)

  -- it has faults
  pub shrink_faulty : (report : Reported) → IfSome opened.input.held (λ image. report ≡ report_of (faults Thin Counts image)) → nat_eq report.total 0 ≡ false
      → IsEnded (shrink shared from to pool blocks) before read_after 1 (reported_lines report)
  shrink_faulty report right faulty =
      let ground = ground_of shared (image_in before.input.held) blocks opened.third.blocks (room_of opened.output.blocks) in
      read_ended ground refl refl report (right_by blocks before.input.held report ground (rw was.input.untouched.held at right) (ground_told shared before.input.held blocks _ _))
      1 (reported_lines report) (λ e. omega arith) refl (rw faulty refl)

  -- it has none, and there is no plan
  module _ (sound : IfSome opened.input.held (λ image. faults Thin Counts image ≡ [])) where
    sound_here : IfSome before.input.held (λ image. faults Thin Counts image ≡ [])
    sound_here = rw was.input.untouched.held at sound

    lacking_ground : (lack : ShrinkLack) (un : HasLack shared opened.input.held opened.output.blocks opened.third.blocks blocks lack) (status : ℕ) (line : List ℕ) → status ≢ 0
        → IsTrue (is_possible (shrink shared from to pool blocks) status) → answer_to (Some lack) un.basis ≡ record { status = status; out = []; notes = line }
        → IsEnded (shrink shared from to pool blocks) before read_after status line
    lacking_ground lack un status line some possible answer =
        read_ended un.basis un.goes_by.data_blocks un.goes_by.room (report_of [])
        (right_by blocks before.input.held (report_of []) un.basis (none_right before.input.held sound_here) (rw was.input.untouched.held at un.goes_by.told))
        status line some possible (answer_sound un.basis (Some lack) un.lacks ∙ answer)

    pub shrink_unplanned : (fault : ShrinkFault) → IsUnplanned shared opened.input.held opened.output.blocks opened.third.blocks blocks fault
        → IsOfPlanning fault opened.input.faults meta.faults → Works (shrink shared from to pool blocks) before read_after (shrink_ended fault)
    shrink_unplanned s.Memory un counts =
        halted_at_rest (shrink shared from to pool blocks) before read_after Memory rest_here refl (record {
          past_super = λ e. absurd cc;
          sound = one_told before.input.held (λ image is. none_at_super Thin Counts image is) sound_here;
        })
    shrink_unplanned s.Meta un counts = halted_at_rest (shrink shared from to pool blocks) before read_after Device rest_here refl (inl (rw was.input.faults at counts.0))
    shrink_unplanned s.Output un counts = absurd un
    shrink_unplanned s.BlockSize un counts = lacking_ground bad_block_size un 1 block_size_line (λ e. omega arith) refl refl
    shrink_unplanned (s.NoRoom need there) un counts = lacking_ground (no_room need there) un 4 (no_room_line need there) (λ e. omega arith) refl refl

-- devices that a plan was made for, and that were written by it
module _ (shared : Bool) (from to pool : List ℕ) (blocks : ℕ) (before after : Objects) (opened : Devices) (fresh : AreFresh before) (unput : after.out ≡ before.out)
    (was : AreOpened (shrink shared from to pool blocks).uses (devices_of before) opened)
    (sound : IfSome opened.input.held (λ image. faults Thin Counts image ≡ []))
    (output_measured : IfSome opened.output.held (λ image. length image ≡ opened.output.blocks)) (pool_measured : IfSome opened.third.held (λ image. length image ≡ opened.third.blocks))
    (plan : Shrink) (ground : ShrinkGround shared) (planned : IsPlanned opened.input.held opened.output.blocks opened.third.blocks blocks ground plan)
    (result : Result ℕ Stop) (written : IsWritten plan result (devices after.input opened.output opened.third) (devices_of after)) where
  abbrev found_here : ShrinkFound shared
  found_here = sound_finding ground

  right_first : IsRight blocks before.input.held (report_of []) ground
  right_first = right_by blocks before.input.held (report_of []) ground (none_right before.input.held (rw was.input.untouched.held at sound))
      (rw was.input.untouched.held at planned.goes_by.told)

  found_written : (out : SinkState) → (shrink shared from to pool blocks).finds before (record after { out = out }) found_here
  found_written out = record {
    pool_device = has_blocks before.third opened.third after.third ground.data_blocks planned.goes_by.data_blocks was.third.untouched.held pool_measured written.pool_place.blocks;
    output = has_room before.output opened.output after.output ground.room planned.goes_by.room was.output.untouched.held output_measured written.output_place.blocks;
    told = right_first;
  }

  answered : shrink_answer found_here ≡ record { status = 0; out = moved_line (length (sources (pool_before ground) ground.end)); notes = [] }
  answered = answer_sound ground None planned.fits

  zero : (shrink_answer found_here).status ≡ 0
  zero = ap (λ (a : Answer). a.status) answered

  -- what is left, by what is left of the output and of what was moved
  leaves : (last : SinkState) (status : ℕ)
      → LeavesMade (LaysShrunk found_here) (not (nat_eq (shrink_answer found_here).status 0)) status before.output after.output
      → IfSome before.third.held (λ image. IsUntouched before.output after.output ⊎ HoldsSynced (data_after (blocks_each (pool_before ground).block_size) (moves_of ground) image) after.third)
      → (IsWorkDone before (record after { out = last }) status → IfSome before.third.held (λ image. HoldsSynced (data_after (blocks_each (pool_before ground).block_size) (moves_of ground) image) after.third))
      → (IsWorkDone before (record after { out = last }) status → HoldsMade (LaysShrunk found_here) before.output after.output)
      → (status ≢ 0 → last ≡ before.out → after.output.faults ≡ before.output.faults → HoldsOldOrNone before.output after.output)
      → (status ≡ 5 → after.output.faults ≡ before.output.faults → IsUntouched before.output after.output)
      → (status ≡ 5 → after.output.faults ≡ before.output.faults → after.third.faults ≡ before.third.faults → IsUntouched before.third after.third)
      → LeavesShrunk found_here before (record after { out = last }) status
  leaves last status output order moved made kept output_spared data_spared = record {
    copies_told = subst (λ (h : Option Image). IfSome h (λ image. IsSome after.third.held)) was.third.untouched.held written.told;
    copies = IfSome_then before.third.held fresh.third.2 (λ image s.
        and_then (stays was.third.untouched.held was.third.untouched.history (here_kept (blocks_each (pool_before ground).block_size) (map copy_of_move (moves_of ground)) image before.third s))
        (written.crash shared ground image planned.plan (still_synced image before.third opened.third was.third.untouched s)));
    output = output;
    order = order;
    moved = moved;
    made = made;
    refused = λ some. absurd (some zero);
    nothing_moved = λ none. and_same was.third.untouched (written.cold (planned.plan.moves ∙ ap (λ (ds : List ℕ). moves_to ds ground.free) none));
    kept = kept;
    output_spared = output_spared;
    data_spared = data_spared;
  }

  -- all was moved
  module _ (ending : Ending) (has : HasMoved plan ending (devices after.input opened.output opened.third) (devices_of after)) where
    all_moved : IfSome before.third.held (λ image. HoldsSynced (data_after (blocks_each (pool_before ground).block_size) (moves_of ground) image) after.third)
    all_moved = IfSome_then before.third.held fresh.third.2 (λ image s. has.moved shared ground image planned.plan (still_synced image before.third opened.third was.third.untouched s))

    made_here : IsMade (content_after ground) ending opened.output after.output
    made_here = has.made shared ground planned.plan

    laid : (status : ℕ) → (status ≡ 0 → IsDone ending) → status ≢ 3 → status ≢ 4
        → LeavesMade (LaysShrunk found_here) (not (nat_eq (shrink_answer found_here).status 0)) status before.output after.output
    laid status is_done three four =
        subst (λ (room : ℕ). LeavesMade (Lays (shrink_answer found_here) (making_after ground) room) (not (nat_eq (shrink_answer found_here).status 0)) status before.output after.output)
        (sym planned.goes_by.room)
        (laid_leaves before.output opened.output after.output fresh.output.2 was.output.untouched (content_after ground) ending made_here (shrink_answer found_here) zero status is_done
        (λ either. elim either [ inl e ↦ three e | inr e ↦ four e ]))

    moved_leaves : (last : SinkState) (status : ℕ) → (IsWorkDone before (record after { out = last }) status → IsDone ending) → status ≢ 3 → status ≢ 4
        → (status ≢ 0 → last ≡ before.out → after.output.faults ≡ before.output.faults → HoldsOldOrNone before.output after.output)
        → (status ≡ 5 → after.output.faults ≡ before.output.faults → ⊥) → LeavesShrunk found_here before (record after { out = last }) status
    moved_leaves last status is_done three four kept never =
        leaves last status (laid status (λ e. is_done (inl e)) three four)
        (one_told before.third.held (λ image is. inr is) all_moved) (λ _. all_moved)
        (λ worked. let ended : IsDone ending = is_done worked in (laid 0 (λ _. ended) (λ e. omega arith) (λ e. omega arith)).output.made refl) kept
        (λ five unfailed. absurd (never five unfailed)) (λ five unfailed. absurd (never five unfailed))

  -- the data device failed
  unmoved_leaves : FailsToMove (devices after.input opened.output opened.third) (devices_of after) → LeavesShrunk found_here before after 5
  unmoved_leaves fails =
      let alone : IsUntouched before.output after.output = and_same was.output.untouched fails.alone in
      let never = not_done before after 5 (λ e. omega arith) unput in
      leaves after.out 5
      (untouched_output (LaysShrunk found_here) (not (nat_eq (shrink_answer found_here).status 0)) 5 before.output after.output fresh.output.2 alone (λ e. omega arith))
      (if_any before.third.held (λ image. inl alone)) (λ worked. absurd (never worked)) (λ worked. absurd (never worked)) (λ _ _ _. same_held before.output after.output alone.held) (λ _ _. alone)
      (λ _ _ unfailed. absurd (not_risen before.third.faults after.third.faults fresh.third.1 unfailed (rw was.third.faults at fails.rose)))

  halted : (stop : Stop) → IsTrue (is_possible (shrink shared from to pool blocks) (stop_status stop)) → HasCause (shrink shared from to pool blocks) before after stop
      → LeavesShrunk found_here before after (stop_status stop) → IsHalted (shrink shared from to pool blocks) before after stop
  halted stop possible cause left = record { finding = found_here; found = found_written after.out; possible = possible; cause = cause; leaves = left }

  pub shrink_unwritten : (stop : Stop) → GoesAsFar plan (Err stop) (devices after.input opened.output opened.third) (devices_of after) → IsHalted (shrink shared from to pool blocks) before after stop
  shrink_unwritten Stream far = absurd far
  shrink_unwritten Memory has =
      halted Memory refl (record {
        past_super = λ e. absurd cc;
        sound = one_told before.input.held (λ image is. none_at_super Thin Counts image is) (rw was.input.untouched.held at sound);
      })
      (moved_leaves lacking has after.out 7 (λ worked. absurd (not_done before after 7 (λ e. omega arith) unput worked)) (λ e. omega arith) (λ e. omega arith)
      (λ _ _ _. laid_kept before.output opened.output after.output fresh.output.2 was.output.untouched (content_after ground) lacking (made_here lacking has) (shrink_answer found_here) tt)
      (λ e. absurd (omega arith)))
  shrink_unwritten Device (inl fails) = halted Device refl (inr (inr (rw was.third.faults at fails.rose))) (unmoved_leaves fails)
  shrink_unwritten Device (inr fails) =
      let risen : Rose before.output.faults after.output.faults = rw was.output.faults at fails.rose in
      let never : after.output.faults ≡ before.output.faults → ⊥ = λ unfailed. not_risen before.output.faults after.output.faults fresh.output.1 unfailed risen in
      halted Device refl (inr (inl risen))
      (moved_leaves _ fails.has_moved after.out 5 (λ worked. absurd (not_done before after 5 (λ e. omega arith) unput worked)) (λ e. omega arith) (λ e. omega arith)
      (λ _ _ unfailed. absurd (never unfailed)) (λ _ unfailed. never unfailed))

  -- all was written
  pub shrink_done : HasMoved plan done (devices after.input opened.output opened.third) (devices_of after)
      → work.IsDone (shrink shared from to pool blocks) before after (moved_line (length (sources (pool_before ground) ground.end)))
  shrink_done has = record {
    finding = found_here;
    found = found_written;
    answer = answered;
    named = refl;
    possible = refl;
    loud = λ e. absurd cc;
    loud_lost = λ e. absurd cc;
    unspared = λ some. some zero;
    leaves = λ out status which touched. moved_leaves done has out status (λ _. tt)
        (λ three. elim which [ inl e ↦ omega arith | inr e ↦ omega arith ]) (λ four. elim which [ inl e ↦ omega arith | inr e ↦ omega arith ])
        (λ _ same. absurd (touched same)) (λ five. absurd (elim which [ inl e ↦ omega arith | inr e ↦ omega arith ]));
  }
