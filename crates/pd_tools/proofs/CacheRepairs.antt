-- What the work of a cache's repair comes to, over plain variables.
use Rattle.std.proofs.Common.{◌≡◌, ◌≢◌, ◌⊎◌, inl, inr, ℕ, ◌+◌, ◌≤◌, ◌<◌, true, false, nat_eq, IsTrue, List, [], length, Option, Some, None, IfSome, Result, Ok, Err, refl, sym, ap, ◌∙◌, subst, arith}
use Rattle.std.specs.Prelude.{IfOk}
use Rattle.std.proofs.lemmas.Bool.{cases_Bool, cases_lt, eqb-true, le-ltb}
use Rattle.pd_kinds.specs.declared.kind.Kind.TheVariants.{Cache}
use Rattle.pd_kinds.specs.declared.kind.Stage.TheVariants.{Super}
use Rattle.pd_kinds.specs.declared.rule.Rule.{Rule}
use Rattle.pd_kinds.specs.declared.rules.Rules.{Rules}
use Rattle.pd_kinds.specs.Crash.{IsUntouched}
use Rattle.pd_kinds.specs.Rule.{faults_at, Reported, report_of, has_rule}
use Rattle.pd_kinds.specs.Image.{room_of}
use Rattle.pd_kinds.specs.Objects.{SinkState, Rose}
use Rattle.pd_kinds.specs.Stages.{faults}
use Rattle.pd_grammar.specs.Lines.{no_room_line, reported_lines}
use Rattle.pd_answers.specs.Terms.{Answer, AreFresh, Objects, Terms, is_possible}
use Rattle.pd_answers.specs.declared.request.CacheRoots.{CacheRoots}
use Rattle.pd_answers.specs.KeptCache.{keeps_line, kept_line}
use Rattle.pd_answers.specs.Repairs.{LeavesKept, SavedIn, kept_answer, making_in, repair_cache, saved_in, FindsSaved, Salvaged}
use Rattle.pd_answers.specs.Outputs.{Lays}
use Rattle.pd_image.specs.Device.{KeepsPlace}
use Rattle.pd_restoring.specs.Made.{AnswersEnding, Content, IsEarly, IsDone as IsMadeDone}
use Rattle.pd_restore_kinds.specs.Caches.{cache_content}
use Rattle.pd_repair.specs.declared.repair.RepairFault.{RepairFault}
use Rattle.pd_repair.specs.Faults.{output_ending}
use Rattle.pd_repair.specs.Repaired.{BlamesOne, NamesRules}
use Rattle.pd_repair.specs.declared.cache_repair.KeptCache.{KeptCache}
use Rattle.pd_repair.specs.CacheRepaired.{IsCacheRepaired, IsKept}
use Rattle.pd_repair.specs.declared.repair.RepairFault.TheVariants as fault
use Rattle.pd_words.specs.Words.{IsVersion}
use Rattle.pd_tools.specs.declared.ending.Stop.{Stop}
use Rattle.pd_tools.specs.declared.ending.Stop.TheVariants.{Device, Memory}
use Rattle.pd_tools.specs.Given.{is_known}
use Rattle.pd_tools.specs.Ending.{repair_ended}
use Rattle.pd_tools.specs.Opened.{AreOpened, Devices, devices_of}
use Rattle.pd_tools.specs.Stop.{stop_status}
use Rattle.pd_tools.specs.Task.{AreAlone, IsAtRest, IsDone, IsEnded, IsHalted, Works, HasCause}
use Rattle.pd_tools.proofs.Laying.{first_alone, first_done, first_failed, first_lacking, first_lost}
use Rattle.pd_tools.proofs.Checks.{one_told}
use Rattle.pd_tools.proofs.Repairs.{answer_faulty, answer_made, answer_small, done_right, faulty_right, found_of, found_right, memory_right, memory_told, named_total, of_ending, output_right, report-told, report_in, room_right, saved_at_rest}
use Rattle.pd_tools.proofs.Restores.{Image}

-- a version that is asked is 1 or 2, as the test says
pub known_is : (version : Option ℕ) → IfSome version IsVersion → is_known version ≡ true
known_is None asked = refl
known_is (Some version) (inl one) = rw one refl
known_is (Some version) (inr two) = rw two refl

pub is_asked : (version : Option ℕ) → is_known version ≡ true → IfSome version IsVersion
is_asked None known = tt
is_asked (Some version) known = elim (cases_Bool (nat_eq version 1)) [
  | inl one ↦ inl (eqb-true version 1 one)
  | inr other ↦ inr (eqb-true version 2 (rw other at known))
]

-- the line of what is kept
pub line_of : SavedIn → List ℕ
line_of saved = keeps_line saved.cache saved.unknown

-- an output that was left alone, under each status but 0
left_alone : (found : Salvaged SavedIn) (before after : Objects) (status : ℕ) → AreFresh before → after.out ≡ before.out → IsUntouched before.output after.output → status ≢ 0
    → ((kept_answer found).status ≡ 4 → after.input.reads ≤ before.input.reads + 1) → LeavesKept found before after status
left_alone found before after status fresh unput same some unread = record {
  made = first_alone (Lays (kept_answer found) (making_in found.saved) found.room) (kept_answer found).status before after status fresh.output.2 unput same some;
  unread = unread;
}

other_than_four : (let zero : ℕ = 0 in zero ≡ 4) ⊎ (let one : ℕ = 1 in one ≡ 4) → ⊥
other_than_four (inl e) = omega arith
other_than_four (inr e) = omega arith

-- status 4 is answered only where there is no room
small_if : (report : Reported) (saved : SavedIn) (room : ℕ) → (kept_answer (found_of report saved room)).status ≡ 4 → room < (making_in saved).need room
small_if report saved room four = elim (cases_lt room ((making_in saved).need room)) [
  | inl small ↦ small
  | inr fits ↦ absurd (never (cases_Bool (nat_eq report.total 0)) fits)
]
  where
    never : (nat_eq report.total 0 ≡ true) ⊎ (nat_eq report.total 0 ≡ false) → (making_in saved).need room ≤ room → ⊥
    never (inl none) fits = other_than_four (inl (rw (none, le-ltb room ((making_in saved).need room) fits) at four))
    never (inr some) fits = other_than_four (inr (rw some at four))

-- what is left where a line is lost
pub kept_lost : (found : Salvaged SavedIn) (before after : Objects) (status : ℕ) → status ≢ 0 → LeavesKept found before after status → LeavesKept found before after 6
kept_lost found before after status some left = record { made = first_lost _ _ before after status some left.made; unread = left.unread }

-- before anything was written
pub cache_repair_rests : (version : Option ℕ) (roots : CacheRoots) (from to : List ℕ) (before after : Objects) → AreFresh before → AreAlone before after → after.input.reads ≡ before.input.reads
    → IsAtRest (repair_cache version roots from to) before after
cache_repair_rests version roots from to before after fresh alone unread =
    let rest = saved_at_rest (faults Cache Super) (saved_in version roots) before after alone in
    record {
      finding = rest.0;
      found = rest.1;
      leaves = λ status some. left_alone rest.0 before after status fresh alone.out alone.output some (λ _. rw unread (omega arith));
    }

module _ (version : Option ℕ) (roots : CacheRoots) (from to : List ℕ) (before after : Objects) (opened : Devices) (fresh : AreFresh before) (unput : after.out ≡ before.out)
    (both : AreOpened (repair_cache version roots from to).uses (devices_of before) opened)
    (measured : IfSome opened.output.held (λ image. length image ≡ opened.output.blocks)) (place : KeepsPlace opened.output after.output) (few : ℕ) (few_is : few ≡ before.input.reads + 1)
    (result : Result KeptCache RepairFault) (done : IsCacheRepaired version roots few result opened.input after.input opened.output after.output) where
  abbrev terms : Terms
  terms = repair_cache version roots from to

  abbrev room : ℕ
  room = room_of opened.output.blocks

  abbrev saved : SavedIn
  saved = record { version = done.written; cache = done.cache; unknown = done.unknown }

  abbrev content : Content
  content = cache_content done.written done.cache

  abbrev finding : Reported → Salvaged SavedIn
  finding report = found_of report saved room

  abbrev answer : Reported → Answer
  answer report = kept_answer (finding report)

  abbrev Leaves : Reported → ℕ → Type 0
  Leaves report status = LeavesKept (finding report) before after status

  abbrev IsRightHere : Reported → Type 0
  IsRightHere report = IfSome before.input.held (λ image. report ≡ report_of (faults Cache Super image))

  is_saved : (cache_here : SavedIn) (image : Image) → cache_here.cache ≡ (saved_in version roots image).cache → cache_here.unknown ≡ (saved_in version roots image).unknown
      → cache_here.version ≡ (saved_in version roots image).version → cache_here ≡ saved_in version roots image
  is_saved cache_here image cache_is unknown_is version_is = rw (cache_is, unknown_is, version_is) refl

  told : IfSome opened.input.held (λ image. saved ≡ saved_in version roots image)
  told = one_told opened.input.held (λ image right. is_saved saved image right.0 right.1.0 right.1.1) done.right

  found_here : (report : Reported) → IsRightHere report → (out : SinkState) → FindsSaved (faults Cache Super) (saved_in version roots) before (record after { out = out }) (finding report)
  found_here report right out = found_right (faults Cache Super) (saved_in version roots) before after opened both.input.untouched.held both.output.untouched.held measured place saved told result done.rules report right

  -- there is room
  given : content.need room ≤ room → answer (report_of []) ≡ record { status = 0; out = line_of saved; notes = [] }
  unfolding line_of
  given fits = answer_made making_in (λ (s : SavedIn). keeps_line s.cache s.unknown) saved room fits

  zero_if : content.need room ≤ room → (answer (report_of [])).status ≡ 0
  zero_if fits = ap (λ (a : Answer). a.status) (given fits)

  told_of : (r : Result KeptCache RepairFault) → result ≡ r → AnswersEnding (output_ending r) content room
  told_of r is = of_ending (λ ending. AnswersEnding ending content room) result r is done.output.answer

  early : (r : Result KeptCache RepairFault) → result ≡ r → IsEarly (output_ending r) → IsUntouched opened.output after.output
  early r is before_writing = of_ending (λ ending. IsEarly ending → IsUntouched opened.output after.output) result r is done.output.early before_writing

  -- where there is no room, block 0 alone was read
  unread : (report : Reported) → (answer report).status ≡ 4 → after.input.reads ≤ before.input.reads + 1
  unread report four = let most = done.early (small_if report saved room four) in omega arith

  alone : IsUntouched opened.output after.output → (report : Reported) (status : ℕ) → status ≢ 0 → Leaves report status
  alone same report status some =
      left_alone (finding report) before after status fresh unput (record { held = same.held ∙ both.output.untouched.held; history = same.history ∙ both.output.untouched.history }) some (unread report)

  -- it came to an answer without a line
  ended : (report : Reported) → IsRightHere report → (status : ℕ) (line : List ℕ) → status ≢ 0 → IsTrue (is_possible terms status)
      → answer report ≡ record { status = status; out = []; notes = line } → IsUntouched opened.output after.output → IsEnded terms before after status line
  ended report right status line some possible answer_is same = record {
    finding = finding report;
    found = found_here report right after.out;
    answer = answer_is;
    possible = possible;
    no_line = λ zero. absurd (some zero);
    leaves = alone same report status some;
  }

  -- or was stopped
  halted : (report : Reported) → IsRightHere report → (stop : Stop) → IsTrue (is_possible terms (stop_status stop)) → HasCause terms before after stop
      → Leaves report (stop_status stop) → IsHalted terms before after stop
  halted report right stop possible cause left =
      record { finding = finding report; found = found_here report right after.out; possible = possible; cause = cause; leaves = left }

  no_room : (need blocks : ℕ) → result ≡ Err (fault.NoRoom need blocks) → IsEnded terms before after 4 (no_room_line need blocks)
  no_room need blocks is =
      let told_here = told_of (Err (fault.NoRoom need blocks)) is in
      let small : room < content.need room = subst (λ (n : ℕ). room < n) told_here.0 told_here.1.1 in
      let right = room_right (faults Cache Super) (saved_in version roots) before after opened both.input.untouched.held both.output.untouched.held measured place saved told result done.rules need blocks is in
      ended (report_of []) right 4 (no_room_line need blocks) (λ e. omega arith) refl
      (rw (told_here.0, told_here.1.0) (answer_small making_in (λ (s : SavedIn). keeps_line s.cache s.unknown) saved room small)) (early (Err (fault.NoRoom need blocks)) is tt)

  faulty : (rules : Rules) → result ≡ Err (fault.NoSuper rules) → (((rule : Rule) → has_rule rules rule ≡ false) → ⊥)
      → IsEnded terms before after 1 (reported_lines (report_of (faults_at 0 (has_rule rules))))
  faulty rules is named =
      let report = report_of (faults_at 0 (has_rule rules)) in
      let right = faulty_right (faults Cache Super) (saved_in version roots) before after opened both.input.untouched.held both.output.untouched.held measured place saved told result done.rules rules is in
      ended report right 1 (reported_lines report) (λ e. omega arith) refl
      (answer_faulty making_in (λ (s : SavedIn). keeps_line s.cache s.unknown) saved room report (named_total rules named)) (early (Err (fault.NoSuper rules)) is tt)

  -- whatever the fault
  pub cache_unrepaired : (f : RepairFault) → result ≡ Err f → NamesRules f → BlamesOne f opened.input.faults after.input.faults opened.output.faults after.output.faults
      → Works terms before after (repair_ended (Err f))
  cache_unrepaired fault.Memory is named counts =
      let right = memory_right (faults Cache Super) (saved_in version roots) before after opened both.input.untouched.held both.output.untouched.held measured place saved told result done.rules is in
      let none = memory_told (faults Cache Super) (saved_in version roots) before after opened both.input.untouched.held both.output.untouched.held measured place saved told result done.rules is in
      halted (report_of []) right Memory refl none
      (record {
        made = first_lacking before after opened.output fresh both.output.untouched unput content (output_ending result) done.output (answer (report_of [])) zero_if (rw is tt);
        unread = unread (report_of []);
      })
  cache_unrepaired fault.Input is named counts =
      halted (report_in (faults Cache Super) before.input.held) (report-told (faults Cache Super) before.input.held) Device refl (inl (rw both.input.faults at counts.0.0))
      (alone (early (Err fault.Input) is tt) (report_in (faults Cache Super) before.input.held) 5 (λ e. omega arith))
  cache_unrepaired fault.Output is named counts =
      let right = output_right (faults Cache Super) (saved_in version roots) before after opened both.input.untouched.held both.output.untouched.held measured place saved told result done.rules is in
      let risen : Rose before.output.faults after.output.faults = rw both.output.faults at counts.1.0 in
      halted (report_of []) right Device refl (inr (inl risen))
      (record {
        made = first_failed before after opened.output fresh both.output.untouched unput content (output_ending result) done.output (answer (report_of [])) zero_if risen;
        unread = unread (report_of []);
      })
  cache_unrepaired (fault.NoSuper rules) is named counts = faulty rules is named
  cache_unrepaired (fault.NoRoom need blocks) is named counts = no_room need blocks is

  -- the line of what was kept is that of the cache
  line_is : (kept : KeptCache) → IsKept kept done.cache done.unknown → line_of saved ≡ kept_line kept.entries kept.blocks kept.dirty kept.unknown
  unfolding line_of
  line_is kept is = rw (is.entries, is.blocks, is.dirty, is.unknown) refl

  -- the cache was written
  pub cache_repaired : (kept : KeptCache) → result ≡ Ok kept → IsDone terms before after (kept_line kept.entries kept.blocks kept.dirty kept.unknown)
  cache_repaired kept is =
      let kept_is = subst (λ (r : Result KeptCache RepairFault). IfOk r (λ k. IsKept k done.cache done.unknown)) is done.kept in
      let answer_is = given (told_of (Ok kept) is).1 ∙ ap (λ (line : List ℕ). record { status = 0; out = line; notes = [] }) (line_is kept kept_is) in
      let right = done_right (faults Cache Super) (saved_in version roots) before after opened both.input.untouched.held both.output.untouched.held measured place saved told result done.rules kept is in
      record {
        finding = finding (report_of []);
        found = found_here (report_of []) right;
        answer = answer_is;
        named = refl;
        possible = refl;
        loud = λ e. absurd cc;
        loud_lost = λ e. absurd cc;
        unspared = λ some. some (ap (λ (a : Answer). a.status) answer_is);
        leaves = λ out status which touched. record {
          made = first_done before after opened.output fresh both.output.untouched unput content (output_ending result) done.output (answer (report_of [])) zero_if
              (of_ending (λ ending. IsMadeDone ending) (Ok kept) result (sym is) tt) (ap (λ (a : Answer). a.status) answer_is) out status which touched;
          unread = unread (report_of []);
        };
      }
