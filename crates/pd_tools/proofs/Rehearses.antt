-- What the work of a rehearsal comes to, over plain variables.
use Rattle.std.proofs.Common.{◌≡◌, ◌≢◌, ◌⊎◌, inl, inr, ℕ, false, nat_eq, List, [], length, Option, None, Some, IfSome, IsTrue, Result, Ok, Err, refl, ◌∙◌, subst, arith, lit≤, unwrap_or}
use Rattle.std.specs.Prelude.{IsSome, IfErr, MatchResult, OnOk, count_by, sum_by}
use Rattle.std.proofs.lemmas.Bool.{ne_eqb}
use Rattle.std.proofs.lemmas.Option.{IfSome_then}
use Rattle.pd_kinds.specs.Crash.{IsSynced, HoldsSynced, HasNoSuper, IsUntouched}
use Rattle.pd_kinds.specs.Image.{room_of}
use Rattle.pd_kinds.specs.Meaning.{ThinDevice}
use Rattle.pd_kinds.specs.Rule.{Reported, report_of}
use Rattle.pd_kinds.proofs.CrashLemmas.{and_then, stays}
use Rattle.pd_kinds.specs.Objects.{SinkState, Rose, Appends, AppendsFront}
use Rattle.pd_grammar.specs.Spelling.{Verdict, accepted, refused, no_room}
use Rattle.pd_grammar.specs.Lines.{no_room_line, reported_lines}
use Rattle.pd_grammar.specs.ThinText.{text_of_pool}
use Rattle.pd_laid.specs.LaidThin.{laid_shape}
use Rattle.pd_laid.specs.Laid.{Makes}
use Rattle.pd_laid.specs.Shape.{ThinShape, pool_of}
use Rattle.pd_laid.specs.PoolText.{IsLawfulShape, IsPoolTextVerdict, is_pool_text_early, shape_need}
use Rattle.pd_answers.specs.Terms.{AreFresh, Objects, Terms, is_possible, IsUsed, reading}
use Rattle.pd_answers.specs.Rehearsals.{generated_text, rehearsal_line, AreNumbers, LeavesRehearsed, Rehearsed, rehearse}
use Rattle.pd_answers.specs.Outputs.{LeavesMade}
use Rattle.pd_answers.specs.Promises.{generate}
use Rattle.pd_image.specs.Device.{KeepsPlace}
use Rattle.pd_gen.specs.declared.rehearsal.RehearseFault.{RehearseFault}
use Rattle.pd_gen.specs.declared.rehearsal.Rehearsal.{Rehearsal}
use Rattle.pd_gen.specs.Rehearsed.{CountsRehearsal, IsReported, IsTurnedDown, Rehearses, found_of}
use Rattle.pd_gen.specs.declared.rehearsal.RehearseFault.TheVariants as f
use Rattle.pd_tools.specs.declared.ending.Stop.{Stop}
use Rattle.pd_tools.specs.declared.ending.Stop.TheVariants.{Device, Memory, Stream}
use Rattle.pd_tools.specs.Ending.{rehearsal_ended}
use Rattle.pd_tools.specs.Opened.{AreOpened, Devices, devices_of}
use Rattle.pd_tools.specs.Restore.{HaveVerdicts}
use Rattle.pd_tools.specs.Stop.{stop_status}
use Rattle.pd_tools.specs.Task.{AreAlone, IsAtRest, IsDone, IsEnded, IsHalted, Works, HasCause, IsFinished, IsStopped}
use Rattle.pd_tools.proofs.Answered.{stop_status-low}
use Rattle.pd_tools.proofs.Restores.{Image, answer_accepted, answer_no_room, here, left_lost, still_synced, untouched_output}
use Rattle.pd_tools.proofs.Laying.{blocks_of, has_room, room_at_rest}
use Rattle.pd_tools.proofs.Tasks.{and_same}
use Rattle.pd_tools.proofs.Works.{not_done, still_done, Stands, finished_by, stopped_by}

-- the numbers of a verdict
abbrev used_in : Verdict ThinShape → ℕ → ℕ
used_in (accepted shape) room = shape_need shape room
used_in (refused why) room = 0
used_in (no_room needed blocks) room = 0

abbrev mappings_in : Verdict ThinShape → ℕ
mappings_in (accepted shape) = sum_by (λ (d : ThinDevice). length d.mappings) (pool_of shape).devices
mappings_in (refused why) = 0
mappings_in (no_room needed blocks) = 0

abbrev lines_in : Verdict ThinShape → ℕ
lines_in (accepted shape) = count_by (λ (byte : ℕ). nat_eq byte 10) (text_of_pool (pool_of shape))
lines_in (refused why) = 0
lines_in (no_room needed blocks) = 0

-- what would have been found
abbrev meant : ℕ → Verdict ThinShape → Rehearsed
meant room v = record { room = room; verdict = v; report = report_of []; used = used_in v room; mappings = mappings_in v; lines = lines_in v }

meant_numbers : (room : ℕ) (v : Verdict ThinShape) → AreNumbers v (meant room v)
meant_numbers room (accepted shape) = record { used = refl; mappings = refl; lines = refl }
meant_numbers room (refused why) = tt
meant_numbers room (no_room needed blocks) = tt

all_told : (held : Option Image) (P : Type 0) → P → IfSome held (λ image. P)
all_told None P p = tt
all_told (Some image) P p = p

-- what holds of a result that is known
match_ok : {T E : Type 0} (P : T → Type 0) (Q : E → Type 0) (result : Result T E) (value : T) → result ≡ Ok value → MatchResult result P Q → P value
match_ok P Q result value is all = rw is at all

match_err : {T E : Type 0} (P : T → Type 0) (Q : E → Type 0) (result : Result T E) (fault : E) → result ≡ Err fault → MatchResult result P Q → Q fault
match_err P Q result fault is all = rw is at all

-- a result without a fault, and one that was turned down
abbrev IsRehearsed : Result Rehearsal RehearseFault → Type 0
IsRehearsed (Ok r) = Unit {0}
IsRehearsed (Err fault) = ⊥

abbrev IsDown : Result Rehearsal RehearseFault → Type 0
IsDown (Ok r) = ⊥
IsDown (Err fault) = IsTurnedDown fault

where_done : (result : Result Rehearsal RehearseFault) {P : Type 0} → OnOk result P → IsRehearsed result → P
where_done (Ok r) p is = p
where_done (Err fault) p is = absurd is

where_down : (result : Result Rehearsal RehearseFault) {P : Type 0} → MatchResult result (λ _. Unit {0}) (λ fault. IsTurnedDown fault → P) → IsDown result → P
where_down (Ok r) kept is = absurd is
where_down (Err fault) kept is = kept is

-- an output that was left alone, under each status but 0
left_alone : (number : ℕ) (rehearsed : Rehearsed) (before after : Objects) (status : ℕ) → IsSynced before.output → after.out ≡ before.out → IsUntouched before.output after.output → status ≢ 0
    → LeavesRehearsed number rehearsed before after status
left_alone number rehearsed before after status synced unput same some = record {
  output = untouched_output (Makes laid_shape rehearsed.room rehearsed.verdict) (is_pool_text_early (generated_text number) rehearsed.room) status before.output after.output synced same some;
  made = λ done. absurd (not_done before after status some unput done);
}

-- what is left where a line is lost
pub rehearsed_lost : (number : ℕ) (rehearsed : Rehearsed) (before after : Objects) (status : ℕ) → LeavesRehearsed number rehearsed before after status
    → LeavesRehearsed number rehearsed before after 6
rehearsed_lost number rehearsed before after status left = record {
  output = left_lost _ _ status before.output after.output left.output;
  made = λ done. left.made (still_done before after status done);
}

-- before anything was done
pub rehearse_rests : (number : ℕ) (path : List ℕ) (before after : Objects) → HaveVerdicts IsPoolTextVerdict → IsSynced before.output → AreAlone before after
    → IsAtRest (rehearse number path) before after
rehearse_rests number path before after verdicts synced alone =
    let room = room_of (blocks_of before.output after.output) in
    let v = verdicts (generated_text number) room in
    record {
      finding = meant room v.0;
      found = (room_at_rest before.output after.output alone.output.held alone.output_measured, (v.1, all_told before.output.held _ (refl, meant_numbers room v.0)));
      leaves = λ status some. left_alone number (meant room v.0) before after status synced alone.out alone.output some;
    }

-- an image that was attached, and rehearsed over
module _ (number : ℕ) (path : List ℕ) (before after : Objects) (opened : Devices) (fresh : AreFresh before) (unput : after.out ≡ before.out)
    (was : AreOpened (rehearse number path).uses (devices_of before) opened)
    (measured : IfSome opened.output.held (λ image. length image ≡ opened.output.blocks)) (place : KeepsPlace opened.output after.output)
    (result : Result Rehearsal RehearseFault) (done : Rehearses number result opened.output after.output) where
  abbrev terms : Terms
  terms = rehearse number path

  abbrev room : ℕ
  room = room_of opened.output.blocks

  abbrev verdict : Verdict ThinShape
  verdict = done.restores.verdict

  abbrev untouched : IsUntouched before.output opened.output
  untouched = was.output.untouched

  -- a finding with this report and these numbers
  abbrev finding_of : Reported → ℕ → ℕ → ℕ → Rehearsed
  finding_of report used mappings lines = record { room = room; verdict = verdict; report = report; used = used; mappings = mappings; lines = lines }

  found : (report : Reported) (used mappings lines : ℕ)
      → ((image : Image) → opened.output.held ≡ Some image → (report ≡ report_of []) × AreNumbers verdict (finding_of report used mappings lines))
      → terms.finds before after (finding_of report used mappings lines)
  found report used mappings lines right = (
    has_room before.output opened.output after.output room refl untouched.held measured place.blocks,
    (done.restores.right, IfSome_then before.output.held fresh.output.2 (λ image s. right image (untouched.held ∙ s.held))),
  )

  -- what the output holds
  leaves : (status : ℕ) → (status ≡ 0 → IsRehearsed result) → ((status ≡ 3) ⊎ (status ≡ 4) → IsDown result)
      → LeavesMade (Makes laid_shape room verdict) (is_pool_text_early (generated_text number) room) status before.output after.output
  leaves status is_done is_down = record {
    output = record {
      told = subst (λ (h : Option Image). IfSome h (λ image. IsSome after.output.held)) untouched.held done.restores.told;
      crash = IfSome_then before.output.held fresh.output.2 (λ image s.
          and_then (stays {old = before.output} {new = opened.output} untouched.held untouched.history (here image (Makes laid_shape room verdict image) before.output s))
          (done.restores.crash image (still_synced image before.output opened.output untouched s)));
      made = λ zero. subst (λ (h : Option Image). IfSome h (λ image. IfSome after.output.held (λ now. Makes laid_shape room verdict image now × HoldsSynced now after.output)))
          untouched.held (where_done result done.restores.made (is_done zero));
      refused = λ either. subst (λ (h : Option Image). IfSome h (λ image. IfSome after.output.held (λ now. (now ≡ image) ⊎ HasNoSuper now))) untouched.held (where_down result done.restores.kept (is_down either));
    };
    untouched = λ early. and_same untouched (done.restores.untouched early);
  }

  -- where no line was put
  unput_leaves : (rehearsed : Rehearsed) (status : ℕ) → status ≢ 0
      → LeavesMade (Makes laid_shape rehearsed.room rehearsed.verdict) (is_pool_text_early (generated_text number) rehearsed.room) status before.output after.output
      → LeavesRehearsed number rehearsed before after status
  unput_leaves rehearsed status some left = record { output = left; made = λ worked. absurd (not_done before after status some unput worked) }

  no_status : (status : ℕ) → status ≢ 0 → status ≢ 3 → status ≢ 4 → LeavesMade (Makes laid_shape room verdict) (is_pool_text_early (generated_text number) room) status before.output after.output
  no_status status zero three four = leaves status (λ e. absurd (zero e)) (λ either. absurd (elim either [ inl e ↦ three e | inr e ↦ four e ]))

  -- memory was wanting, or the device failed
  halted : (stop : Stop) → IsTrue (is_possible terms (stop_status stop)) → HasCause terms before after stop → IsHalted terms before after stop
  halted stop possible cause =
      let high = stop_status-low stop in
      record {
        finding = meant room verdict;
        found = found (report_of []) (used_in verdict room) (mappings_in verdict) (lines_in verdict) (λ image s. (refl, meant_numbers room verdict));
        possible = possible;
        cause = cause;
        leaves = unput_leaves (meant room verdict) (stop_status stop) (λ e. omega arith) (no_status (stop_status stop) (λ e. omega arith) (λ e. omega arith) (λ e. omega arith));
      }

  -- there was no room
  no_room_here : (need blocks : ℕ) → result ≡ Err (f.NoRoom need blocks) → IsEnded terms before after 4 (no_room_line need blocks)
  no_room_here need blocks is =
      let answer = answer_no_room need blocks verdict (match_err _ _ result (f.NoRoom need blocks) is done.restores.answer) in
      let down : IsDown result = rw is tt in
      record {
        finding = meant room verdict;
        found = found (report_of []) (used_in verdict room) (mappings_in verdict) (lines_in verdict) (λ image s. (refl, meant_numbers room verdict));
        answer = rw answer refl;
        possible = refl;
        no_line = λ e. absurd (omega arith);
        leaves = unput_leaves (meant room verdict) 4 (λ e. omega arith) (leaves 4 (λ e. absurd (omega arith)) (λ _. down));
      }

  -- the check found faults
  faulty : (report : Reported) → result ≡ Err (f.Faulty report) → report.total ≢ 0 → IsEnded terms before after 1 (reported_lines report)
  faulty report is some =
      let answer = answer_accepted IsLawfulShape verdict (match_err _ _ result (f.Faulty report) is done.restores.answer) in
      let never = match_err _ _ result (f.Faulty report) is done.numbers in
      let total : nat_eq report.total 0 ≡ false = ne_eqb report.total 0 some in
      record {
        finding = finding_of report 0 0 0;
        found = found report 0 0 0 (λ image s. absurd (never image s tt));
        answer = rw (answer, total) refl;
        possible = refl;
        no_line = λ e. absurd (omega arith);
        leaves = unput_leaves (finding_of report 0 0 0) 1 (λ e. omega arith) (no_status 1 (λ e. omega arith) (λ e. omega arith) (λ e. omega arith));
      }

  -- all was restored, checked and counted
  rehearsed_here : (r : Rehearsal) → result ≡ Ok r → IsDone terms before after (rehearsal_line number r.used r.counts.mappings r.counts.lines)
  rehearsed_here r is =
      let answer = answer_accepted IsLawfulShape verdict (match_ok _ _ result r is done.restores.answer) in
      let ended : IsRehearsed result = rw is tt in
      let made : (status : ℕ) → status ≢ 3 → status ≢ 4
      → LeavesMade (Makes laid_shape room verdict) (is_pool_text_early (generated_text number) room) status before.output after.output
      = λ status three four. leaves status (λ _. ended) (λ either. absurd (elim either [ inl e ↦ three e | inr e ↦ four e ])) in
      record {
        finding = found_of room verdict r;
        found = λ out. found (report_of []) r.used r.counts.mappings r.counts.lines (λ image s. (refl, match_ok _ _ result r is done.numbers image s));
        answer = rw answer refl;
        named = refl;
        possible = refl;
        loud = λ e. absurd cc;
        loud_lost = λ e. absurd cc;
        unspared = λ some. some (rw answer refl);
        leaves = λ out status which touched. record {
          output = made status (λ e. elim which [ inl z ↦ omega arith | inr z ↦ omega arith ]) (λ e. elim which [ inl z ↦ omega arith | inr z ↦ omega arith ]);
          made = λ _. (made 0 (λ e. omega arith) (λ e. omega arith)).output.made refl;
        };
      }

  -- whatever its result
  pub rehearse_works : (r : Result Rehearsal RehearseFault) → result ≡ r → IfErr r IsReported → CountsRehearsal r opened.output.faults after.output.faults
      → Works terms before after (rehearsal_ended number r)
  rehearse_works (Ok r) is reported counts = rehearsed_here r is
  rehearse_works (Err f.Memory) is reported counts = halted Memory refl tt
  rehearse_works (Err f.Device) is reported counts = halted Device refl (inr (inl (rw was.output.faults at counts.0)))
  rehearse_works (Err (f.NoRoom need blocks)) is reported counts = no_room_here need blocks is
  rehearse_works (Err (f.Faulty report)) is reported counts = faulty report is reported

-- What the work of the generator comes to, over plain variables.

module _ (number : ℕ) (file : Option (List ℕ)) (others : Objects) (notes out out' : SinkState) (used : IsUsed (reading (unwrap_or file [])) out'.access out'.path) where
  stands : Stands (generate number file) (record others { out = out }) (record others { out = out'; notes = notes })
  stands = record {
    followed = record { source = tt; out = used; input = tt; output = tt; third = tt };
    order = record { input = tt; output = tt; third = tt; out = λ _. record { source = tt; input = tt; output = tt; third = tt } };
    kept = record { source = refl; out = tt; input = refl; output = refl; third = refl };
    reads = tt;
  }

  -- the text was put
  pub generated : out'.access ≡ 1 → Appends (generated_text number) out.written out'.written
      → IsFinished (generate number file) (record others { out = out }) (record others { out = out'; notes = notes }) 0 []
  generated access whole =
      finished_by (generate number file) _ _ stands tt tt 0 _ [] (lit≤ tt) refl (λ e. absurd cc) (λ no. absurd no) refl whole
      (record { source = tt; input = tt; output = tt; third = tt }) (λ _. access) (λ _. tt) tt

  -- or a front of it, since `out` failed
  pub generated_front : AppendsFront (generated_text number) out.written out'.written → Rose out.faults out'.faults
      → IsStopped (generate number file) (record others { out = out }) (record others { out = out'; notes = notes }) Stream
  generated_front front rose =
      stopped_by (generate number file) _ _ stands tt tt Stream refl (λ e. absurd cc) (λ no. absurd no) (inr rose) front tt tt
