-- How the objects of a task stand at its end, by how it names them, and what its work comes to.
use Rattle.std.proofs.Common.{◌≡◌, ◌≢◌, inl, inr, ℕ, ◌≤◌, IsTrue, List, [], Option, Result, Ok, Err, refl, sym, ap, ◌∙◌, subst, arith, lit≤}
use Rattle.pd_kinds.specs.declared.kind.Kind.{Kind}
use Rattle.pd_kinds.specs.declared.kind.Stage.{Stage}
use Rattle.pd_kinds.specs.Objects.{AppendsFront, DeviceState, SinkState}
use Rattle.pd_kinds.specs.Crash.{IsUntouched}
use Rattle.pd_kinds.specs.Stages.{CanWantMemory}
use Rattle.pd_answers.specs.Terms.{Answer, AreFresh, IsNamed, IsOpen, IsUsed, Objects, Use, unused, reading, writing, AreOpen, Changes, IsKept, Terms, Uses, is_possible}
use Rattle.pd_kept.specs.States.{looked_text}
use Rattle.pd_tools.specs.declared.ending.Ending.{Ending}
use Rattle.pd_tools.specs.declared.ending.Ending.TheVariants.{Done, Faulty, Refused, NoRoom, BlockSize, NoRoots}
use Rattle.pd_tools.specs.declared.ending.Outcome.{Outcome}
use Rattle.pd_tools.specs.declared.ending.Outcome.TheVariants.{Line, Told, Ended}
use Rattle.pd_tools.specs.declared.ending.Stop.{Stop}
use Rattle.pd_tools.specs.declared.ending.Stop.TheVariants.{Device, Stream, Memory}
use Rattle.pd_tools.specs.Ending.{ending_line, ending_status}
use Rattle.pd_tools.specs.Opened.{AreOpened, AreUnopened, AsksAs, Devices, IsOpened, KeepsAs, OpensAs, devices_of}
use Rattle.pd_tools.specs.Query.{IsUnread}
use Rattle.pd_tools.specs.Stop.{stop_status}
use Rattle.pd_tools.specs.Task.{AreAlone, Ends, IsAtRest, IsDone, IsEnded, IsHalted, IsMeasured, LosesLine, PutsLast, PutsOutcome, Works, HasCause, IsFinished, IsFollowed, IsStopped}
use Rattle.pd_tools.proofs.Answered.{after_notes, after_notes_alone, no_turn, not_yet, stop_status-low}
use Rattle.pd_tools.proofs.Works.{Stands, finished_by, finished_early, stopped_by, stopped_early}

-- a device that was attached
pub opens : (given : Use) (old new : DeviceState) → OpensAs given old new → IsOpen given new.access
opens unused old new was = tt
opens (reading path) old new was = was.attached
opens (writing path) old new was = was.attached

-- a device that was left alone once, and once more
pub and_same : {a b c : DeviceState} → IsUntouched a b → IsUntouched b c → IsUntouched a c
and_same {a} {b} {c} first next = record { held = next.held ∙ first.held; history = next.history ∙ first.history }

pub opened_alone : (given : Use) (old new : DeviceState) → OpensAs given old new → IsUntouched old new
opened_alone unused old new was = record { held = ap (λ (d : DeviceState). d.held) was; history = ap (λ (d : DeviceState). d.history) was }
opened_alone (reading path) old new was = was.untouched
opened_alone (writing path) old new was = was.untouched

-- one that was asked for was left alone
pub left_alone : (given : Use) (old new : DeviceState) → AsksAs given old new → IsUntouched old new
left_alone unused old new asked = record { held = ap (λ (d : DeviceState). d.held) asked; history = ap (λ (d : DeviceState). d.history) asked }
left_alone (reading path) old new asked = asked.untouched
left_alone (writing path) old new asked = asked.untouched

asked_used : (given : Use) (old new : DeviceState) → AsksAs given old new → IsFollowed given (λ as_named. IsUsed as_named new.access new.path)
asked_used unused old new asked = tt
asked_used (reading path) old new asked = asked.used
asked_used (writing path) old new asked = asked.used

asked_kept : (given : Use) (old new : DeviceState) → AsksAs given old new → IsKept IsUntouched given old new
asked_kept unused old new asked = asked
asked_kept (reading path) old new asked = asked.untouched
asked_kept (writing path) old new asked = tt

-- an object that is the same is kept
same_kept : {State : Type 0} (Same : State → State → Type 0) (given : Use) (old new : State) → Same old old → new ≡ old → IsKept Same given old new
same_kept Same unused old new same is = is
same_kept Same (reading path) old new same is = rw is same
same_kept Same (writing path) old new same is = tt

-- how a device stands at the end that was attached
record IsHeld (given : Use) (old new : DeviceState) : Type 0 where
  attached : IsOpen given new.access
  followed : IsFollowed given (λ as_named. IsUsed as_named new.access new.path)
  kept : IsKept IsUntouched given old new

held : (given : Use) (old opened new : DeviceState) → OpensAs given old opened → KeepsAs given opened new → IsHeld given old new
held unused old opened new was kept = record { attached = tt; followed = tt; kept = kept ∙ was }
held (reading path) old opened new was kept = record {
  attached = kept.access ∙ was.attached;
  followed = record { allowed = inr (inl (kept.access ∙ was.attached)); named = λ _. rw kept.path was.named };
  kept = record { held = kept.held ∙ was.untouched.held; history = kept.history ∙ was.untouched.history };
}
held (writing path) old opened new was kept = record {
  attached = kept.access ∙ was.attached;
  followed = record { allowed = inr (inl (kept.access ∙ was.attached)); named = λ _. rw kept.path was.named };
  kept = tt;
}

-- a device that was attached, and then only read
pub still_opened : {given : Use} {old opened new : DeviceState} → IsOpened given old opened → new.access ≡ opened.access → new.path ≡ opened.path
    → IsUntouched opened new → new.faults ≡ opened.faults → IsOpened given old new
still_opened {given} was access path same faults = record {
  attached = subst (λ (a : ℕ). IsOpen given a) (sym access) was.attached;
  named = subst (λ (told : Option (List ℕ)). IsNamed given told) (sym path) was.named;
  untouched = and_same was.untouched same;
  faults = faults ∙ was.faults;
}

-- the objects once the devices were attached, and the input was read
abbrev pub read_by : Objects → Devices → SinkState → DeviceState → Objects
read_by before opened notes input = record before { notes = notes; input = input; output = opened.output; third = opened.third }

pub read_alone : (uses : Uses) (before : Objects) (opened : Devices) (notes : SinkState) (input : DeviceState) → AreOpened uses (devices_of before) opened
    → IsUntouched opened.input input → IsMeasured opened.output → IsMeasured opened.third → AreAlone before (read_by before opened notes input)
read_alone uses before opened notes input was same output third = record {
  out = refl;
  input = and_same (opened_alone uses.input before.input opened.input was.input) same;
  output = opened_alone uses.output before.output opened.output was.output;
  third = opened_alone uses.third before.third opened.third was.third;
  output_measured = output;
  third_measured = third;
}

-- work that stopped before it wrote
pub halted_at_rest : (terms : Terms) (before after : Objects) (stop : Stop) → IsAtRest terms before after → IsTrue (is_possible terms (stop_status stop))
    → HasCause terms before after stop → IsHalted terms before after stop
halted_at_rest terms before after stop rest possible cause =
    let high = stop_status-low stop in
    record { finding = rest.finding; found = rest.found; possible = possible; cause = cause; leaves = rest.leaves (stop_status stop) (λ e. omega arith) }

-- since the input was attached, or since before
pub unread_first : {given : Use} {old opened : DeviceState} (kind : Kind) (until : Stage) (new : DeviceState) → IsOpened given old opened → (stop : Stop)
    → IsUnread kind until opened new stop → IsUnread kind until old new stop
unread_first kind until new was Stream is = is
unread_first kind until new was Device is = rw was.faults at is
unread_first kind until new was Memory is = rw was.untouched.held at is

-- the input wasn't read to a report
pub unread : (terms : Terms) (before after : Objects) (kind : Kind) (until : Stage) (stop : Stop) → IsAtRest terms before after → IsUnread kind until before.input after.input stop
    → IsTrue (is_possible terms 5) → IsTrue (is_possible terms 7) → (CanWantMemory kind until before.input.held → terms.memory before) → IsHalted terms before after stop
unread terms before after kind until Stream rest is five seven wanting = absurd is
unread terms before after kind until Device rest is five seven wanting = halted_at_rest terms before after Device rest five (inl is)
unread terms before after kind until Memory rest is five seven wanting = halted_at_rest terms before after Memory rest seven (wanting is)

low_ending : (ending : Ending) → ending_status ending ≤ 4
low_ending Done = lit≤ tt
low_ending (Faulty report) = lit≤ tt
low_ending (Refused fault) = lit≤ tt
low_ending (NoRoom need blocks) = lit≤ tt
low_ending BlockSize = lit≤ tt
low_ending (NoRoots are_damaged) = lit≤ tt

-- a device couldn't be attached, before any work
pub unopened : (terms : Terms) (before after : Objects) → terms.uses.source ≡ unused → after.source ≡ before.source → after.out ≡ before.out → AreFresh before
    → terms.reads before after → IsTrue (is_possible terms 5) → AreUnopened terms.uses (devices_of before) (devices_of after) → IsAtRest terms before after
    → IsStopped terms before after Device
unopened terms before after none source unput fresh reads possible un rest =
    stopped_early terms before after (record {
      followed = record {
        source = rw none tt;
        out = rw unput (not_yet terms.uses.out before.out.access before.out.path fresh.out.0);
        input = asked_used terms.uses.input before.input after.input un.input;
        output = asked_used terms.uses.output before.output after.output un.output;
        third = asked_used terms.uses.third before.third after.third un.third;
      };
      order = record {
        input = after_notes_alone terms.uses.input after.input.access _ (rw none tt);
        output = after_notes terms.uses.output after.output.access _ _ (rw none tt) un.output_order;
        third = after_notes terms.uses.third after.third.access _ _ (rw none tt) un.third_order;
        out = rw unput (no_turn terms.uses.out before.out.access _ fresh.out.0);
      };
      kept = record {
        source = rw none source;
        out = same_kept Changes terms.uses.out before.out after.out tt unput;
        input = asked_kept terms.uses.input before.input after.input un.input;
        output = asked_kept terms.uses.output before.output after.output un.output;
        third = asked_kept terms.uses.third before.third after.third un.third;
      };
      reads = reads;
    }) rest.finding rest.found unput Device possible un.cause (rest.leaves 5 (λ e. omega arith)) (rest.leaves 6 (λ e. omega arith))

-- work over devices that were attached
module _ (terms : Terms) (before after : Objects) (opened : Devices) (none : terms.uses.source ≡ unused) (source : after.source ≡ before.source)
    (fresh : AreFresh before) (loses : LosesLine terms) (reads : (before after : Objects) → terms.reads before after) (was : AreOpened terms.uses (devices_of before) opened)
    (input : KeepsAs terms.uses.input opened.input after.input) (output : KeepsAs terms.uses.output opened.output after.output)
    (third : KeepsAs terms.uses.third opened.third after.third) where
  abbrev input_held : IsHeld terms.uses.input before.input after.input
  input_held = held terms.uses.input before.input opened.input after.input was.input input

  abbrev output_held : IsHeld terms.uses.output before.output after.output
  output_held = held terms.uses.output before.output opened.output after.output was.output output

  abbrev third_held : IsHeld terms.uses.third before.third after.third
  third_held = held terms.uses.third before.third opened.third after.third was.third third

  all_open : AreOpen terms.uses after
  all_open = record { source = rw none tt; input = input_held.attached; output = output_held.attached; third = third_held.attached }

  stands : (out : SinkState) → IsFollowed terms.uses.out (λ given. IsUsed given out.access out.path) → IsKept Changes terms.uses.out before.out out
      → Stands terms before (record after { out = out })
  stands out used kept = record {
    followed = record { source = rw none tt; out = used; input = input_held.followed; output = output_held.followed; third = third_held.followed };
    order = record {
      input = after_notes_alone terms.uses.input after.input.access _ (rw none tt);
      output = after_notes_alone terms.uses.output after.output.access _ (rw none tt, input_held.attached);
      third = after_notes_alone terms.uses.third after.third.access _ (rw none tt, (input_held.attached, output_held.attached));
      out = after_notes_alone terms.uses.out out.access _ (record { source = rw none tt; input = input_held.attached; output = output_held.attached; third = third_held.attached });
    };
    kept = record { source = rw none source; out = kept; input = input_held.kept; output = output_held.kept; third = third_held.kept };
    reads = reads before (record after { out = out });
  }

  -- no line was put
  module _ (unput : after.out ≡ before.out) where
    unput_stands : Stands terms before after
    unput_stands = stands after.out (rw unput (not_yet terms.uses.out before.out.access before.out.path fresh.out.0)) (same_kept Changes terms.uses.out before.out after.out tt unput)

    ended : (ending : Ending) → IsEnded terms before after (ending_status ending) (ending_line ending) → IsFinished terms before after (ending_status ending) (ending_line ending)
    ended ending is =
        finished_early terms before after unput_stands is.finding is.found unput (ending_status ending) (ending_line ending) (low_ending ending) is.possible is.answer
        all_open (λ e. rw unput (is.no_line e)) (λ _. rw none tt) is.leaves

    halted : (stop : Stop) → IsHalted terms before after stop → IsStopped terms before after stop
    halted stop is =
        let high = stop_status-low stop in
        stopped_early terms before after unput_stands is.finding is.found unput stop is.possible is.cause is.leaves
        (loses is.finding before after (stop_status stop) (λ e. omega arith) is.leaves)

  -- it was put, or a front of it
  module _ (line : List ℕ) (out : SinkState) (is : IsDone terms before after line) where
    abbrev told : Objects
    told = record after { out = out }

    done : (result : Result Ending Stop) → PutsLast line result before.out out → Ends terms before told result
    done (Ok ending) puts =
        let touched : out ≢ before.out = λ same. puts.touched (ap (λ (s : SinkState). s.access) same ∙ fresh.out.0) in
        rw puts.put.0 (finished_by terms before told (stands out (rw is.named puts.used) (rw is.named tt)) is.finding (is.found out) 0 line [] (lit≤ tt) is.possible
        (λ silent. absurd (is.loud silent)) (λ spared. absurd (is.unspared spared)) is.answer puts.put.1.1
        (record { source = rw none tt; input = input_held.attached; output = output_held.attached; third = third_held.attached })
        (λ _. rw is.named puts.put.1.0) (λ _. rw none tt) (is.leaves out 0 (inl refl) touched))
    done (Err stop) puts =
        let touched : out ≢ before.out = λ same. puts.touched (ap (λ (s : SinkState). s.access) same ∙ fresh.out.0) in
        let left = is.leaves out 6 (inr refl) touched in
        rw puts.lost.0 (stopped_by terms before told (stands out (rw is.named puts.used) (rw is.named tt)) is.finding (is.found out) Stream refl
        (λ silent. absurd (is.loud_lost silent)) (λ spared. absurd (is.unspared spared)) (inr puts.lost.1.0)
        (subst (λ (a : Answer). AppendsFront a.out before.out.written out.written) (sym is.answer) puts.lost.1.1) left left)

  -- whatever the work came to
  pub ends : (worked : Result Outcome Stop) (result : Result Ending Stop) (out : SinkState) → after.out ≡ before.out → Works terms before after worked
      → PutsOutcome worked result before.out out → Ends terms before (record after { out = out }) result
  ends (Ok (Line line)) result out unput works puts = done line out works result puts
  ends (Ok (Told looked)) result out unput works puts = done (looked_text looked) out works result puts
  ends (Ok (Ended ending)) result out unput works puts = rw (puts.0, puts.1 ∙ sym unput) (ended unput ending works)
  ends (Err stop) result out unput works puts = rw (puts.0, puts.1 ∙ sym unput) (halted unput stop works)
