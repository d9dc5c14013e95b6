-- What the work of a repair comes to, over plain variables.
use Rattle.std.proofs.Common.{◌≡◌, ◌≢◌, inl, inr, ℕ, ◌≤◌, ◌<◌, Bool, false, not, nat_eq, IsTrue, List, [], ◌∷◌, length, Option, Some, None, IfSome, Result, Ok, Err, refl, sym, ap, subst, arith}
use Rattle.std.specs.Prelude.{IfErr}
use Rattle.std.specs.Option.{option_map_or}
use Rattle.std.proofs.lemmas.Bool.{lt-ltb, le-ltb}
use Rattle.std.proofs.lemmas.Option.{IfSome_then}
use Rattle.std.proofs.Math.Dec.{eqb-suc-zero}
use Rattle.pd_kinds.specs.declared.rule.Fault.{Fault}
use Rattle.pd_kinds.specs.declared.rule.Rule.{Rule}
use Rattle.pd_kinds.specs.declared.rules.Rules.{Rules}
use Rattle.pd_kinds.specs.Objects.{DeviceState, Rose}
use Rattle.pd_kinds.specs.Crash.{HoldsOldOrNone, IsSynced, IsUntouched}
use Rattle.pd_kinds.specs.Rule.{faults_at, Reported, report_of, has_rule}
use Rattle.pd_kinds.specs.Image.{room_of}
use Rattle.pd_kinds.proofs.CleanLemmas.{no_rule_broken}
use Rattle.pd_grammar.specs.Lines.{no_room_line, reported_lines}
use Rattle.pd_answers.specs.Terms.{Answer, AreFresh, Objects, Terms, is_one_of, is_possible}
use Rattle.pd_answers.specs.Outputs.{Lays, Making}
use Rattle.pd_answers.specs.Repairs.{FindsSaved, LeavesRepaired, Salvaged, Saved, repair_answer, repair_by, saved_answer, saved_making}
use Rattle.pd_image.specs.Device.{KeepsPlace}
use Rattle.pd_restoring.specs.Made.{AnswersEnding, Ending, IsEarly, IsOfOthers}
use Rattle.pd_repair.specs.declared.repair.RepairFault.{RepairFault}
use Rattle.pd_repair.specs.Faults.{output_ending}
use Rattle.pd_repair.specs.Repaired.{AnswersSuper, CountsRepair, IsRepairedBy, NamesRules}
use Rattle.pd_repair.specs.declared.repair.RepairFault.TheVariants as fault
use Rattle.pd_tools.specs.declared.ending.Stop.{Stop}
use Rattle.pd_tools.specs.declared.ending.Stop.TheVariants.{Device, Memory}
use Rattle.pd_tools.specs.Ending.{repair_ended}
use Rattle.pd_tools.specs.Opened.{AreOpened, Devices, devices_of}
use Rattle.pd_tools.specs.Restore.{saved_content}
use Rattle.pd_tools.specs.Stop.{stop_status}
use Rattle.pd_tools.specs.Task.{AreAlone, IsAtRest, IsEnded, IsHalted, Works, HasCause}
use Rattle.pd_tools.proofs.Answered.{not_risen}
use Rattle.pd_tools.proofs.Laying.{any_leaves, laid_kept, laid_leaves, blocks_of, has_room, room_at_rest}
use Rattle.pd_tools.proofs.Checks.{two_told}
use Rattle.pd_tools.proofs.Restores.{Image, last_lost, untouched_last}
use Rattle.pd_tools.proofs.Tasks.{and_same}

-- what is found in what the input tells
pub report_in : (Image → List Fault) → Option Image → Reported
report_in broken held = option_map_or (λ (image : Image). report_of (broken image)) held (report_of [])

pub report-told : (broken : Image → List Fault) (held : Option Image) → IfSome held (λ image. report_in broken held ≡ report_of (broken image))
unfolding report_in
report-told broken None = tt
report-told broken (Some image) = refl

saved_in : {S : Type 0} → (Image → S) → Option Image → S
saved_in all_of held = option_map_or all_of held (all_of [])

saved-told : {S : Type 0} (all_of : Image → S) (held : Option Image) → IfSome held (λ image. saved_in all_of held ≡ all_of image)
unfolding saved_in
saved-told all_of None = tt
saved-told all_of (Some image) = refl

abbrev pub found_of : {S : Type 0} → Reported → S → ℕ → Salvaged S
found_of report saved room = record { report = report; saved = saved; room = room }

-- where a rule is named there is a fault
named_some : (rules : Rules) (list : List Fault) → faults_at 0 (has_rule rules) ≡ list → (((rule : Rule) → has_rule rules rule ≡ false) → ⊥) → nat_eq (length list) 0 ≡ false
named_some rules [] is named = absurd (named (no_rule_broken 0 (has_rule rules) is))
named_some rules (fault ∷ list) is named = eqb-suc-zero (length list)

-- the answer to what was found
module _ {S : Type 0} (making : S → Making) (line : S → List ℕ) (saved : S) (room : ℕ) where
  pub answer_made : (making saved).need room ≤ room → saved_answer making line (found_of (report_of []) saved room) ≡ record { status = 0; out = line saved; notes = [] }
  answer_made fits = rw (le-ltb room ((making saved).need room) fits) refl

  pub answer_small : room < (making saved).need room
      → saved_answer making line (found_of (report_of []) saved room) ≡ record { status = 4; out = []; notes = no_room_line ((making saved).need room) room }
  answer_small small = rw (lt-ltb room ((making saved).need room) small) refl

  pub answer_faulty : (report : Reported) → nat_eq report.total 0 ≡ false
      → saved_answer making line (found_of report saved room) ≡ record { status = 1; out = []; notes = reported_lines report }
  answer_faulty report faulty = rw faulty refl

-- before anything was written
pub saved_at_rest : {S : Type 0} (broken : Image → List Fault) (all_of : Image → S) (before after : Objects) → AreAlone before after → (found : Salvaged S) × FindsSaved broken all_of before after found
saved_at_rest broken all_of before after alone = (
  found_of (report_in broken before.input.held) (saved_in all_of before.input.held) (room_of (blocks_of before.output after.output)),
  (
    room_at_rest before.output after.output alone.output.held alone.output_measured,
    two_told before.input.held (λ image report saved. (report, saved)) (report-told broken before.input.held) (saved-told all_of before.input.held),
  ),
)

-- what holds of the ending of a result that is known
pub of_ending : {T : Type 0} (P : Ending → Type 0) (result known : Result T RepairFault) → result ≡ known → P (output_ending result) → P (output_ending known)
of_ending {T} P result known is all = subst (λ (r : Result T RepairFault). P (output_ending r)) is all

-- an output over which what was saved is written, and what the faults of the superblock are answered by
module _ {S T : Type 0} (broken : Image → List Fault) (all_of : Image → S) (before after : Objects) (opened : Devices)
    (input_held : opened.input.held ≡ before.input.held) (output_held : opened.output.held ≡ before.output.held)
    (measured : IfSome opened.output.held (λ image. length image ≡ opened.output.blocks)) (place : KeepsPlace opened.output after.output)
    (saved : S) (told : IfSome opened.input.held (λ image. saved ≡ all_of image))
    (result : Result T RepairFault) (rules : IfSome opened.input.held (λ image. AnswersSuper result (broken image))) where
  abbrev IsRight : Reported → Type 0
  IsRight report = IfSome before.input.held (λ image. report ≡ report_of (broken image))

  -- what was found is right
  pub found_right : (report : Reported) → IsRight report → FindsSaved broken all_of before after (found_of report saved (room_of opened.output.blocks))
  found_right report right = (
    has_room before.output opened.output after.output (room_of opened.output.blocks) refl output_held measured place.blocks,
    two_told before.input.held (λ image is all. (is, all)) right (subst (λ (h : Option Image). IfSome h (λ image. saved ≡ all_of image)) input_held told),
  )

  -- what the faults of the superblock are answered by
  of_super : (P : List Fault → Type 0) → IfSome opened.input.held (λ image. P (broken image)) → IfSome before.input.held (λ image. P (broken image))
  of_super P here = subst (λ (h : Option Image). IfSome h (λ image. P (broken image))) input_held here

  answered_by : (r : Result T RepairFault) → result ≡ r → IfSome before.input.held (λ image. AnswersSuper r (broken image))
  answered_by r is = of_super (λ list. AnswersSuper r list) (subst (λ (s : Result T RepairFault). IfSome opened.input.held (λ image. AnswersSuper s (broken image))) is rules)

  -- there are none
  none_right : IfSome before.input.held (λ image. broken image ≡ []) → IsRight (report_of [])
  none_right none = IfSome_then before.input.held none (λ image is. ap (λ (list : List Fault). report_of list) (sym is))

  pub done_right : (answer : T) → result ≡ Ok answer → IsRight (report_of [])
  done_right answer is = none_right (answered_by (Ok answer) is)

  pub memory_told : result ≡ Err fault.Memory → IfSome before.input.held (λ image. broken image ≡ [])
  memory_told is = answered_by (Err fault.Memory) is

  pub memory_right : result ≡ Err fault.Memory → IsRight (report_of [])
  memory_right is = none_right (memory_told is)

  pub output_right : result ≡ Err fault.Output → IsRight (report_of [])
  output_right is = none_right (answered_by (Err fault.Output) is)

  pub room_right : (need blocks : ℕ) → result ≡ Err (fault.NoRoom need blocks) → IsRight (report_of [])
  room_right need blocks is = none_right (answered_by (Err (fault.NoRoom need blocks)) is)

  -- or these
  pub faulty_right : (broken : Rules) → result ≡ Err (fault.NoSuper broken) → IsRight (report_of (faults_at 0 (has_rule broken)))
  faulty_right broken is = IfSome_then before.input.held (answered_by (Err (fault.NoSuper broken)) is) (λ image are. ap (λ (list : List Fault). report_of list) are.1)

-- a report of rules that are named isn't empty
pub named_total : (rules : Rules) → (((rule : Rule) → has_rule rules rule ≡ false) → ⊥) → nat_eq (report_of (faults_at 0 (has_rule rules))).total 0 ≡ false
named_total rules named = named_some rules (faults_at 0 (has_rule rules)) refl named

-- an output that was left alone, under each status but 0
left_alone : (shared : Bool) (found : Salvaged (Saved shared)) (status : ℕ) (output last : DeviceState) → IsSynced output → IsUntouched output last → status ≢ 0
    → LeavesRepaired (saved_making shared) found status output last
left_alone shared found status output last synced same some = record {
  output = untouched_last (Lays (repair_answer (saved_making shared) found) (saved_making shared found.saved) found.room) (not (nat_eq (repair_answer (saved_making shared) found).status 0)) status output last synced same some;
  input_failed = λ _ _. same;
}

-- what is left where the line of a refusal is lost
pub repaired_lost : (shared : Bool) (found : Salvaged (Saved shared)) (status : ℕ) (output last : DeviceState) → status ≢ 0
    → LeavesRepaired (saved_making shared) found status output last → LeavesRepaired (saved_making shared) found 6 output last
repaired_lost shared found status output last some left = record {
  output = last_lost _ _ status output last some left.output;
  input_failed = λ e. absurd (omega arith);
}

-- before anything was written
pub repair_rests : (broken : Image → List Fault) (statuses : List ℕ) (shared : Bool) (all_of : Image → Saved shared) (from to : List ℕ) (before after : Objects) → AreFresh before → AreAlone before after
    → IsAtRest (repair_by broken statuses shared all_of from to) before after
repair_rests broken statuses shared all_of from to before after fresh alone =
    let rest = saved_at_rest broken all_of before after alone in
    record {
      finding = rest.0;
      found = rest.1;
      leaves = λ status some. left_alone shared rest.0 status before.output after.output fresh.output.2 alone.output some;
    }

-- the statuses of a repair that looks at the superblock
abbrev pub repair_statuses : List ℕ
repair_statuses = 0 ∷ 1 ∷ 4 ∷ 5 ∷ 7 ∷ []

-- those that come of each repair
pub record AreRepairs (statuses : List ℕ) : Type 0 where
  pub done : IsTrue (is_one_of statuses 0)
  pub no_room : IsTrue (is_one_of statuses 4)
  pub failed : IsTrue (is_one_of statuses 5)
  pub wanting : IsTrue (is_one_of statuses 7)

module _ (broken : Image → List Fault) (statuses : List ℕ) (can : AreRepairs statuses) (shared : Bool) (all_of : Image → Saved shared) (from to : List ℕ) (before after : Objects) (opened : Devices)
    (fresh : AreFresh before) (both : AreOpened (repair_by broken statuses shared all_of from to).uses (devices_of before) opened)
    (measured : IfSome opened.output.held (λ image. length image ≡ opened.output.blocks)) (place : KeepsPlace opened.output after.output)
    (result : Result (Unit {0}) RepairFault) (done : IsRepairedBy broken (saved_content shared) all_of result opened.input opened.output after.output)
    (refused : (rules : Rules) → result ≡ Err (fault.NoSuper rules) → IsTrue (is_one_of statuses 1)) where
  abbrev room : ℕ
  room = room_of opened.output.blocks

  abbrev terms : Terms
  terms = repair_by broken statuses shared all_of from to

  abbrev making : Making
  making = saved_making shared done.pool

  abbrev finding : Reported → Salvaged (Saved shared)
  finding report = found_of report done.pool room

  abbrev answer : Reported → Answer
  answer report = repair_answer (saved_making shared) (finding report)

  -- what is right to report
  abbrev IsRightHere : Reported → Type 0
  IsRightHere report = IfSome before.input.held (λ image. report ≡ report_of (broken image))

  -- what is left of the output
  abbrev Leaves : Reported → ℕ → Type 0
  Leaves report status = LeavesRepaired (saved_making shared) (finding report) status before.output after.output

  found_here : (report : Reported) → IsRightHere report → FindsSaved broken all_of before after (finding report)
  found_here = found_right broken all_of before after opened both.input.untouched.held both.output.untouched.held measured place done.pool done.right result done.rules

  -- an output that the repair left alone
  alone : IsUntouched opened.output after.output → (report : Reported) (status : ℕ) → status ≢ 0 → Leaves report status
  alone same report status some = left_alone shared (finding report) status before.output after.output fresh.output.2 (and_same both.output.untouched same) some

  early : (r : Result (Unit {0}) RepairFault) → result ≡ r → IsEarly (output_ending r) → IsUntouched opened.output after.output
  early r is before_writing = of_ending (λ ending. IsEarly ending → IsUntouched opened.output after.output) result r is done.output.early before_writing

  -- whatever there is room for, where no faults are reported
  either_way : (after.output.faults ≡ before.output.faults → HoldsOldOrNone before.output after.output) → (status : ℕ)
      → (status ≡ 5 → after.output.faults ≡ before.output.faults → IsUntouched before.output after.output)
      → status ≢ 0 → status ≢ 3 → status ≢ 4 → Leaves (report_of []) status
  either_way kept status input_failed some three four = record {
    output = record {
      made = any_leaves before.output opened.output after.output fresh.output.2 both.output.untouched (saved_content shared done.pool) (output_ending result) done.output (answer (report_of []))
          (λ fits. ap (λ (a : Answer). a.status) (answer_made (saved_making shared) (λ _. []) done.pool room fits)) status some three four;
      kept = λ _. kept;
    };
    input_failed = input_failed;
  }

  -- it came to an answer
  ended : (report : Reported) → IsRightHere report → (status : ℕ) (line : List ℕ) → IsTrue (is_possible terms status)
      → answer report ≡ record { status = status; out = []; notes = line } → Leaves report status → IsEnded terms before after status line
  ended report right status line possible given left =
      record { finding = finding report; found = found_here report right; answer = given; possible = possible; no_line = λ _. tt; leaves = left }

  -- or was stopped
  halted : (report : Reported) → IsRightHere report → (stop : Stop) → IsTrue (is_possible terms (stop_status stop)) → HasCause terms before after stop
      → Leaves report (stop_status stop) → IsHalted terms before after stop
  halted report right stop possible cause left =
      record { finding = finding report; found = found_here report right; possible = possible; cause = cause; leaves = left }

  repair_made : result ≡ Ok tt → IsEnded terms before after 0 []
  repair_made is =
      let told = of_ending (λ ending. AnswersEnding ending (saved_content shared done.pool) room) result (Ok tt) is done.output.answer in
      let given = answer_made (saved_making shared) (λ _. []) done.pool room told.1 in
      let right = done_right broken all_of before after opened both.input.untouched.held both.output.untouched.held measured place done.pool done.right result done.rules tt is in
      ended (report_of []) right 0 [] can.done given
      (record {
        output = record {
          made = laid_leaves before.output opened.output after.output fresh.output.2 both.output.untouched (saved_content shared done.pool) (output_ending result) done.output (answer (report_of []))
              (ap (λ (a : Answer). a.status) given) 0 (λ _. rw is tt) (λ either. elim either [ inl e ↦ omega arith | inr e ↦ omega arith ]);
          kept = λ some. absurd (some refl);
        };
        input_failed = λ e. absurd (omega arith);
      })

  repair_no_room : (need blocks : ℕ) → result ≡ Err (fault.NoRoom need blocks) → IsEnded terms before after 4 (no_room_line need blocks)
  repair_no_room need blocks is =
      let told = of_ending (λ ending. AnswersEnding ending (saved_content shared done.pool) room) result (Err (fault.NoRoom need blocks)) is done.output.answer in
      let small : room < making.need room = subst (λ (n : ℕ). room < n) told.0 told.1.1 in
      let right = room_right broken all_of before after opened both.input.untouched.held both.output.untouched.held measured place done.pool done.right result done.rules need blocks is in
      ended (report_of []) right 4 (no_room_line need blocks) can.no_room
      (rw (told.0, told.1.0) (answer_small (saved_making shared) (λ _. []) done.pool room small)) (alone (early (Err (fault.NoRoom need blocks)) is tt) (report_of []) 4 (λ e. omega arith))

  repair_faulty : (rules : Rules) → result ≡ Err (fault.NoSuper rules) → (((rule : Rule) → has_rule rules rule ≡ false) → ⊥)
      → IsEnded terms before after 1 (reported_lines (report_of (faults_at 0 (has_rule rules))))
  repair_faulty rules is named =
      let report = report_of (faults_at 0 (has_rule rules)) in
      let right = faulty_right broken all_of before after opened both.input.untouched.held both.output.untouched.held measured place done.pool done.right result done.rules rules is in
      ended report right 1 (reported_lines report) (refused rules is) (answer_faulty (saved_making shared) (λ _. []) done.pool room report (named_total rules named))
      (alone (early (Err (fault.NoSuper rules)) is tt) report 1 (λ e. omega arith))

  repair_memory : result ≡ Err fault.Memory → IsHalted terms before after Memory
  repair_memory is =
      let right = memory_right broken all_of before after opened both.input.untouched.held both.output.untouched.held measured place done.pool done.right result done.rules is in
      let none = memory_told broken all_of before after opened both.input.untouched.held both.output.untouched.held measured place done.pool done.right result done.rules is in
      let kept = laid_kept before.output opened.output after.output fresh.output.2 both.output.untouched (saved_content shared done.pool) (output_ending result) done.output (answer (report_of []))
      (of_ending (λ ending. IsOfOthers ending) (Err fault.Memory) result (sym is) tt) in
      halted (report_of []) right Memory can.wanting none (either_way (λ _. kept) 7 (λ e. absurd (omega arith)) (λ e. omega arith) (λ e. omega arith) (λ e. omega arith))

  repair_output : result ≡ Err fault.Output → Rose opened.output.faults after.output.faults → IsHalted terms before after Device
  repair_output is rose =
      let right = output_right broken all_of before after opened both.input.untouched.held both.output.untouched.held measured place done.pool done.right result done.rules is in
      let risen : Rose before.output.faults after.output.faults = rw both.output.faults at rose in
      let never : after.output.faults ≡ before.output.faults → ⊥ = λ same. not_risen before.output.faults after.output.faults fresh.output.1 same risen in
      halted (report_of []) right Device can.failed (inr (inl risen))
      (either_way (λ same. absurd (never same)) 5 (λ _ same. absurd (never same)) (λ e. omega arith) (λ e. omega arith) (λ e. omega arith))

  repair_input : result ≡ Err fault.Input → Rose opened.input.faults after.input.faults → IsHalted terms before after Device
  repair_input is rose =
      halted (report_in broken before.input.held) (report-told broken before.input.held) Device can.failed (inl (rw both.input.faults at rose))
      (alone (early (Err fault.Input) is tt) (report_in broken before.input.held) 5 (λ e. omega arith))

  -- whatever its result
  works_by : (r : Result (Unit {0}) RepairFault) → result ≡ r → IfErr r NamesRules
      → CountsRepair r opened.input.faults after.input.faults opened.output.faults after.output.faults → Works terms before after (repair_ended r)
  works_by (Ok answer) is named counts = repair_made is
  works_by (Err fault.Memory) is named counts = repair_memory is
  works_by (Err fault.Input) is named counts = repair_input is counts.0.0
  works_by (Err fault.Output) is named counts = repair_output is counts.1.0
  works_by (Err (fault.NoSuper rules)) is named counts = repair_faulty rules is named
  works_by (Err (fault.NoRoom need blocks)) is named counts = repair_no_room need blocks is

  pub repair_works : IfErr result NamesRules → CountsRepair result opened.input.faults after.input.faults opened.output.faults after.output.faults
      → Works terms before after (repair_ended result)
  repair_works = works_by result refl
