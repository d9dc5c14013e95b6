-- The headline over any terms, put together from what the work of a request ensures.
use Rattle.std.proofs.Common.{◌≡◌, ◌≢◌, inl, inr, ℕ, ◌≤◌, List, [], ◌∷◌, Option, IfSome, Result, Ok, Err, refl, ap, ◌∙◌, arith, lit≤}
use Rattle.std.specs.Prelude.{MatchResult}
use Rattle.pd_kinds.specs.Objects.{DeviceState, SourceState, SinkState, Rose, Appends, AppendsFront}
use Rattle.pd_kinds.specs.Crash.{IsUntouched}
use Rattle.pd_kinds.proofs.ListLemmas.{appends_none, front_none, front_from_whole}
use Rattle.pd_grammar.specs.Lines.{device_line, sink_line, memory_line}
use Rattle.pd_answers.specs.Terms.{Objects, AreFresh, NoFaults, DeviceRose, StreamRose, failure_line, Use, unused, reading, writing, IsUsed, AppendsFrontOfOne, Terms, Uses, AreInOrder, AreKept, AreUsed, ComesAfter, IsKept, Changes, IsAnswered}
use Rattle.pd_tools.specs.declared.ending.Ending.{Ending}
use Rattle.pd_tools.specs.declared.ending.Ending.TheVariants.{Done, Faulty, Refused, NoRoom, BlockSize, NoRoots}
use Rattle.pd_tools.specs.declared.ending.Stop.{Stop}
use Rattle.pd_tools.specs.declared.ending.Stop.TheVariants.{Device, Stream, Memory}
use Rattle.pd_tools.specs.Ending.{TellsEnd, ending_line, ending_status, PutsLine, IsAttachedNotes}
use Rattle.pd_tools.specs.Stop.{stop_line, stop_status}
use Rattle.pd_tools.specs.Task.{AreInTurn, IsWork, IsFinished, IsStopped, IsFollowed, AreFollowed, HasCause}

-- a count that was 0 and didn't change hasn't risen
pub not_risen : (old new : ℕ) → old ≡ 0 → new ≡ old → Rose old new → ⊥
not_risen old new zero same rose = omega arith

-- an object that isn't named isn't attached, since it was left alone
used_if_kept : {State : Type 0} (access : State → ℕ) (path : State → Option (List ℕ)) (Same : State → State → Type 0)
    (given : Use) (old new : State) → access old ≡ 0 → IsKept Same given old new
    → IsFollowed given (λ as_named. IsUsed as_named (access new) (path new)) → IsUsed given (access new) (path new)
used_if_kept access path Same unused old new fresh kept followed =
    let none : access new ≡ 0 = ap access kept ∙ fresh in record { allowed = none; named = λ ne. absurd (ne none) }
used_if_kept access path Same (reading word) old new fresh kept followed = followed
used_if_kept access path Same (writing word) old new fresh kept followed = followed

-- `notes` once it was attached
notes_used : (notes attached notes' : SinkState) → IsAttachedNotes notes attached → notes'.access ≡ attached.access → notes'.path ≡ attached.path
    → IsUsed (reading []) notes'.access notes'.path
notes_used notes attached notes' was access path = record {
  allowed = inr (inl (access ∙ was.access));
  named = λ _. rw path was.path;
}

-- where only the request's own objects are attached, and `notes`
all_used : (uses : Uses) (before after : Objects) → AreFresh before → AreKept uses before after → AreFollowed uses after
    → IsUsed (reading []) after.notes.access after.notes.path → AreUsed uses after
all_used uses before after fresh kept followed notes = record {
  source = used_if_kept (λ (s : SourceState). s.access) (λ (s : SourceState). s.path) _ uses.source before.source after.source fresh.source.0 kept.source followed.source;
  out = used_if_kept (λ (s : SinkState). s.access) (λ (s : SinkState). s.path) _ uses.out before.out after.out fresh.out.0 kept.out followed.out;
  notes = notes;
  input = used_if_kept (λ (s : DeviceState). s.access) (λ (s : DeviceState). s.path) _ uses.input before.input after.input fresh.input.0 kept.input followed.input;
  output = used_if_kept (λ (s : DeviceState). s.access) (λ (s : DeviceState). s.path) _ uses.output before.output after.output fresh.output.0 kept.output followed.output;
  third = used_if_kept (λ (s : DeviceState). s.access) (λ (s : DeviceState). s.path) _ uses.third before.third after.third fresh.third.0 kept.third followed.third;
}

-- the line of a failure is one of three
one_of_three : (stop : Stop) (first : List ℕ) (old new : Option (List ℕ)) → AppendsFront (stop_line stop) old new
    → AppendsFrontOfOne (first ∷ device_line ∷ sink_line ∷ memory_line ∷ []) old new
one_of_three Device first old new front = inr (inl front)
one_of_three Stream first old new front = inr (inr (inl front))
one_of_three Memory first old new front = inr (inr (inr (inl front)))

pub stop_status-low : (stop : Stop) → 5 ≤ stop_status stop
stop_status-low Device = lit≤ tt
stop_status-low Stream = lit≤ tt
stop_status-low Memory = lit≤ tt

stop_status-line : (stop : Stop) → failure_line (stop_status stop) ≡ stop_line stop
stop_status-line Device = refl
stop_status-line Stream = refl
stop_status-line Memory = refl

-- where nothing failed, only memory stops
stop_memory : (terms : Terms) (before after : Objects) (stop : Stop) → AreFresh before → HasCause terms before after stop → NoFaults before after → stop_status stop ≡ 7
stop_memory terms before after Device fresh cause none = absurd (elim cause [
  | inl rose ↦ not_risen _ _ fresh.input.1 none.input rose
  | inr other ↦ elim other [ inl rose ↦ not_risen _ _ fresh.output.1 none.output rose | inr rose ↦ not_risen _ _ fresh.third.1 none.third rose ]
])
stop_memory terms before after Stream fresh cause none = absurd (elim cause [
  | inl rose ↦ not_risen _ _ fresh.source.1 none.source rose
  | inr rose ↦ not_risen _ _ fresh.out.1 none.out rose
])
stop_memory terms before after Memory fresh cause none = refl

cause_5 : (terms : Terms) (before after : Objects) (stop : Stop) → HasCause terms before after stop → stop_status stop ≡ 5 → DeviceRose before after
cause_5 terms before after Device cause e = cause
cause_5 terms before after Stream cause e = absurd (omega arith)
cause_5 terms before after Memory cause e = absurd (omega arith)

cause_6 : (terms : Terms) (before after : Objects) (stop : Stop) → HasCause terms before after stop → stop_status stop ≡ 6 → StreamRose before after
cause_6 terms before after Device cause e = absurd (omega arith)
cause_6 terms before after Stream cause e = cause
cause_6 terms before after Memory cause e = absurd (omega arith)

cause_7 : (terms : Terms) (before after : Objects) (stop : Stop) → HasCause terms before after stop → stop_status stop ≡ 7 → terms.memory before
cause_7 terms before after Device cause e = absurd (omega arith)
cause_7 terms before after Stream cause e = absurd (omega arith)
cause_7 terms before after Memory cause e = cause

-- what comes after others comes after `notes` too
pub after_notes : (given : Use) (access : ℕ) (Earlier Notes : Type 0) → Notes → ComesAfter given access Earlier → ComesAfter given access (Notes × Earlier)
after_notes unused access Earlier Notes attached turn = tt
after_notes (reading path) access Earlier Notes attached turn = λ some. (attached, turn some)
after_notes (writing path) access Earlier Notes attached turn = λ some. (attached, turn some)

pub after_notes_alone : (given : Use) (access : ℕ) (Notes : Type 0) → Notes → ComesAfter given access Notes
after_notes_alone unused access Notes attached = tt
after_notes_alone (reading path) access Notes attached = λ _. attached
after_notes_alone (writing path) access Notes attached = λ _. attached

-- the objects of work that was done once `notes` was attached
in_order : (uses : Uses) (after : Objects) → after.notes.access ≡ 1 → AreInTurn uses after → AreInOrder uses after
in_order uses after attached turn = record {
  source = after_notes_alone uses.source after.source.access _ attached;
  input = after_notes uses.input after.input.access _ _ attached turn.input;
  output = after_notes uses.output after.output.access _ _ attached turn.output;
  third = after_notes uses.third after.third.access _ _ attached turn.third;
  out = after_notes uses.out after.out.access _ _ attached turn.out;
}

module _ (terms : Terms) (before after : Objects) (fresh : AreFresh before) where
  -- `notes` failed
  answered_lost : (finding : terms.Finding) (wanted : ℕ) → IsWork terms finding before after wanted
      → AreInOrder terms.uses after
      → terms.leaves finding before after 6
      → AppendsFront (terms.answer finding).out before.out.written after.out.written
      → AppendsFrontOfOne ((terms.answer finding).notes ∷ device_line ∷ sink_line ∷ memory_line ∷ []) before.notes.written after.notes.written
      → Rose before.notes.faults after.notes.faults
      → IsUsed (reading []) after.notes.access after.notes.path
      → IsAnswered terms before after 6
  answered_lost finding wanted work order lost front notes_front rose notes = record {
    finding = finding;
    found = work.found;
    sound = λ h. absurd (omega arith);
    complete = λ none. absurd (not_risen before.notes.faults after.notes.faults fresh.notes.1 none.notes rose);
    possible = refl;
    front = front;
    silent = λ _ ne. absurd (ne refl);
    spared = work.spared;
    own_line = λ _ same. absurd (not_risen before.notes.faults after.notes.faults fresh.notes.1 same rose);
    notes_front = notes_front;
    device_failed = λ e. absurd (omega arith);
    sink_failed = λ _. inr rose;
    notes_failed = λ _. refl;
    memory_wanting = λ e. absurd (omega arith);
    used = all_used terms.uses before after fresh work.kept work.followed notes;
    order = order;
    kept = work.kept;
    open_devices = λ h. absurd (omega arith);
    open_notes = λ ne. absurd (ne refl);
    open_out = λ e. absurd (omega arith);
    read = λ e. absurd (omega arith);
    reads = work.reads;
    leaves = lost;
  }

-- what isn't attached is in order
pub no_turn : (given : Use) (access : ℕ) (Earlier : Type 0) → access ≡ 0 → ComesAfter given access Earlier
no_turn unused access Earlier none = tt
no_turn (reading path) access Earlier none = λ ne. absurd (ne none)
no_turn (writing path) access Earlier none = λ ne. absurd (ne none)

-- what isn't attached yet
pub not_yet : (given : Use) (access : ℕ) (told : Option (List ℕ)) → access ≡ 0 → IsFollowed given (λ as_named. IsUsed as_named access told)
not_yet unused access told none = tt
not_yet (reading path) access told none = record { allowed = inl none; named = λ ne. absurd (ne none) }
not_yet (writing path) access told none = record { allowed = inl none; named = λ ne. absurd (ne none) }

still : {State : Type 0} (Same : State → State → Type 0) (given : Use) (state : State) → Same state state → IsKept Same given state state
still Same unused state same = refl
still Same (reading path) state same = same
still Same (writing path) state same = tt

-- `notes` couldn't be attached, before all else
pub answered_unattached : (terms : Terms) (before : Objects) (notes' : SinkState) (finding : terms.Finding) → AreFresh before → terms.finds before (record before { notes = notes' }) finding
    → terms.reads before (record before { notes = notes' })
    → terms.leaves finding before (record before { notes = notes' }) 6
    → notes'.access ≡ 3 → IfSome notes'.path (λ told. told ≡ []) → notes'.written ≡ before.notes.written → Rose before.notes.faults notes'.faults
    → IsAnswered terms before (record before { notes = notes' }) 6
answered_unattached terms before notes' finding fresh found reads leaves access path written rose =
    answered_lost terms before (record before { notes = notes' }) fresh finding 6 (record {
      found = found;
      possible = refl;
      followed = record {
        source = not_yet terms.uses.source before.source.access before.source.path fresh.source.0;
        out = not_yet terms.uses.out before.out.access before.out.path fresh.out.0;
        input = not_yet terms.uses.input before.input.access before.input.path fresh.input.0;
        output = not_yet terms.uses.output before.output.access before.output.path fresh.output.0;
        third = not_yet terms.uses.third before.third.access before.third.path fresh.third.0;
      };
      kept = record {
        source = still Changes terms.uses.source before.source tt;
        out = still Changes terms.uses.out before.out tt;
        input = still IsUntouched terms.uses.input before.input (record { held = refl; history = refl });
        output = still IsUntouched terms.uses.output before.output (record { held = refl; history = refl });
        third = still IsUntouched terms.uses.third before.third (record { held = refl; history = refl });
      };
      order = record {
        input = no_turn terms.uses.input before.input.access _ fresh.input.0;
        output = no_turn terms.uses.output before.output.access _ fresh.output.0;
        third = no_turn terms.uses.third before.third.access _ fresh.third.0;
        out = no_turn terms.uses.out before.out.access _ fresh.out.0;
      };
      silent = λ _. refl;
      spared = λ _. refl;
      reads = reads;
      leaves = leaves;
    }) (record {
      source = no_turn terms.uses.source before.source.access _ fresh.source.0;
      input = no_turn terms.uses.input before.input.access _ fresh.input.0;
      output = no_turn terms.uses.output before.output.access _ fresh.output.0;
      third = no_turn terms.uses.third before.third.access _ fresh.third.0;
      out = no_turn terms.uses.out before.out.access _ fresh.out.0;
    }) leaves (front_none _ before.out.written) (inl (rw written (front_none _ before.notes.written))) rose
    (record { allowed = inr (inr access); named = λ _. path })

module _ (terms : Terms) (before after : Objects) (attached : SinkState) (fresh : AreFresh before) (was : IsAttachedNotes before.notes attached) where
  -- the answer was given, with its line
  answered_given : (wanted : ℕ) (line : List ℕ) → IsFinished terms before after wanted line
      → Appends line before.notes.written after.notes.written → after.notes.faults ≡ before.notes.faults
      → after.notes.access ≡ 1 → IsUsed (reading []) after.notes.access after.notes.path
      → IsAnswered terms before after wanted
  answered_given wanted line done whole same access notes =
      let low = done.low in
      let whole_line = rw done.same_line at whole in record {
        finding = done.finding;
        found = done.work.found;
        sound = λ _. record { status = done.same_status; out = done.out; notes = whole_line };
        complete = λ none. inl done.same_status;
        possible = done.work.possible;
        front = front_from_whole _ _ _ done.out;
        silent = λ quiet _. done.work.silent quiet;
        spared = done.work.spared;
        own_line = λ high. absurd (omega arith);
        notes_front = inl (front_from_whole _ _ _ whole_line);
        device_failed = λ e. absurd (omega arith);
        sink_failed = λ e. absurd (omega arith);
        notes_failed = λ rose. absurd (not_risen before.notes.faults after.notes.faults fresh.notes.1 same rose);
        memory_wanting = λ e. absurd (omega arith);
        used = all_used terms.uses before after fresh done.work.kept done.work.followed notes;
        order = in_order terms.uses after access done.work.order;
        kept = done.work.kept;
        open_devices = λ _. done.open_devices;
        open_notes = λ _. access;
        open_out = done.open_out;
        read = done.read;
        reads = done.work.reads;
        leaves = done.work.leaves;
      }

  -- the work came to the answer, which has no line
  pub answered_silent : (wanted : ℕ) → IsFinished terms before after wanted [] → after.notes ≡ attached → IsAnswered terms before after wanted
  answered_silent wanted done none = answered_given wanted [] done
      (rw (none, was.written) (appends_none before.notes.written)) (rw none was.faults) (rw none was.access)
      (rw none (notes_used before.notes attached attached was refl refl))

  -- the work came to the answer, and then its line was put
  pub answered_put : (wanted status : ℕ) (line : List ℕ) → (done : IsFinished terms before after wanted line)
      → terms.leaves done.finding before after 6
      → PutsLine line wanted status attached after.notes → IsAnswered terms before after status
  answered_put wanted status line done six puts =
      let notes = notes_used before.notes attached after.notes was puts.access puts.path in
      elim puts.outcome [
        | inl put ↦ rw put.status (answered_given wanted line done (rw was.written at put.whole) (put.faults ∙ was.faults) (puts.access ∙ was.access) notes)
        | inr lost ↦ rw lost.status (answered_lost terms before after fresh done.finding wanted done.work (in_order terms.uses after (puts.access ∙ was.access) done.work.order) six (front_from_whole _ _ _ done.out)
            (inl (rw (was.written, done.same_line) at puts.front)) (rw was.faults at lost.faults) notes)
      ]

  -- the work was stopped
  pub answered_stopped : (stop : Stop) (status : ℕ) → IsStopped terms before after stop
      → PutsLine (stop_line stop) (stop_status stop) status attached after.notes → IsAnswered terms before after status
  answered_stopped stop status stopped puts =
      let notes = notes_used before.notes attached after.notes was puts.access puts.path in
      let front = rw was.written at puts.front in
      let notes_front = one_of_three stop (terms.answer stopped.finding).notes before.notes.written after.notes.written front in
      let low = stop_status-low stop in
      elim puts.outcome [
        | inl put ↦
            let same : after.notes.faults ≡ before.notes.faults = put.faults ∙ was.faults in
            rw put.status (record {
              finding = stopped.finding;
              found = stopped.work.found;
              sound = λ h. absurd (omega arith);
              complete = λ none. inr (stop_memory terms before after stop fresh stopped.cause none);
              possible = stopped.work.possible;
              front = stopped.front;
              silent = λ quiet _. stopped.work.silent quiet;
              spared = stopped.work.spared;
              own_line = λ _ _. rw (stop_status-line stop, ← was.written) put.whole;
              notes_front = notes_front;
              device_failed = cause_5 terms before after stop stopped.cause;
              sink_failed = λ e. inl (cause_6 terms before after stop stopped.cause e);
              notes_failed = λ rose. absurd (not_risen before.notes.faults after.notes.faults fresh.notes.1 same rose);
              memory_wanting = cause_7 terms before after stop stopped.cause;
              used = all_used terms.uses before after fresh stopped.work.kept stopped.work.followed notes;
              order = in_order terms.uses after (puts.access ∙ was.access) stopped.work.order;
              kept = stopped.work.kept;
              open_devices = λ h. absurd (omega arith);
              open_notes = λ _. puts.access ∙ was.access;
              open_out = λ e. absurd (omega arith);
              read = λ e. absurd (omega arith);
              reads = stopped.work.reads;
              leaves = stopped.work.leaves;
            })
        | inr lost ↦ rw lost.status (answered_lost terms before after fresh stopped.finding (stop_status stop) stopped.work (in_order terms.uses after (puts.access ∙ was.access) stopped.work.order) stopped.lost stopped.front notes_front (rw was.faults at lost.faults) notes)
      ]

  -- the work ended, and its line was put, or it was stopped
  pub answered_ended : (ended : Result Ending Stop) (status : ℕ)
      → ((finding : terms.Finding) (status : ℕ) → status ≢ 0 → terms.leaves finding before after status → terms.leaves finding before after 6)
      → MatchResult ended (λ ending. IsFinished terms before after (ending_status ending) (ending_line ending)) (IsStopped terms before after)
      → TellsEnd ended status attached after.notes → IsAnswered terms before after status
  answered_ended (Ok Done) status lost done tells = rw tells.0 (answered_silent 0 done tells.1)
  answered_ended (Ok (Faulty report)) status lost done tells = answered_put 1 status _ done (lost done.finding 1 (λ e. omega arith) done.work.leaves) tells
  answered_ended (Ok (Refused fault)) status lost done tells = answered_put 3 status _ done (lost done.finding 3 (λ e. omega arith) done.work.leaves) tells
  answered_ended (Ok (NoRoom need blocks)) status lost done tells = answered_put 4 status _ done (lost done.finding 4 (λ e. omega arith) done.work.leaves) tells
  answered_ended (Ok BlockSize) status lost done tells = answered_put 1 status _ done (lost done.finding 1 (λ e. omega arith) done.work.leaves) tells
  answered_ended (Ok (NoRoots are_damaged)) status lost done tells = answered_put 1 status _ done (lost done.finding 1 (λ e. omega arith) done.work.leaves) tells
  answered_ended (Err stop) status lost stopped tells = answered_stopped stop status stopped tells
