use Rattle.std.proofs.Common.{◌≡◌, true, false, sym, ◌∙◌, arith, rules}
use Rattle.std.proofs.lemmas.Bool.Decides.{nat_tests}
use Rattle.pd_kinds.specs.declared.kind.Kind.TheVariants.{Thin}
use Rattle.pd_kinds.specs.declared.kind.Stage.TheVariants.{Counts}
use Rattle.pd_tools.specs.Opened.{devices}
use Rattle.pd_tools.proofs.Checks.{none_reported, one_told}
use Rattle.pd_tools.proofs.Shrinks.{shrink_faulty, shrink_unread}
use Rattle.pd_tools.proofs.Tasks.{still_opened}
use Rattle.pd_tools.proofs.shrink.ShrinkingTask.work.Goals as goal

pub returns-in_err-report-clause-works : goal.returns-in_err-report-clause-works
returns-in_err-report-clause-works g c others notes first fresh was _ =
    let stopped = shrink_unread c.args.self.now.shared c.args.self.now.from.now c.args.self.now.to.now c.args.self.now.pool.now c.args.self.now.blocks (record others { input = first.input; output = first.output; third = first.third })
    (devices (g.A.Device.state c.args.input.now) (g.B.Device.state c.args.output.now) (g.C.Device.state c.args.third.now)) notes (g.A.Device.state c.check_attached.new.input) fresh was c.in_err-report.ensures.untouched
    (g.met.B.Device.measured c.args.output.now) (g.met.C.Device.measured c.args.third.now) c.in_err-report.field-0.0 c.in_err-report.ensures.stopped in
    search rules

pub returns-then-not-is_empty-clause-works : goal.returns-then-not-is_empty-clause-works
returns-then-not-is_empty-clause-works g c others notes first fresh was _ =
    let faulty : c.is_empty.result ≡ false = first_of (search rules, grind (arith, nat_tests)) in
    shrink_faulty c.args.self.now.shared c.args.self.now.from.now c.args.self.now.to.now c.args.self.now.pool.now c.args.self.now.blocks (record others { input = first.input; output = first.output; third = first.third })
    (devices (g.A.Device.state c.args.input.now) (g.B.Device.state c.args.output.now) (g.C.Device.state c.args.third.now)) notes (g.A.Device.state c.check_attached.new.input) fresh was c.in_ok-report.ensures.untouched
    (g.met.B.Device.measured c.args.output.now) (g.met.C.Device.measured c.args.third.now) c.in_ok-report.report c.in_ok-report.ensures.report (sym c.is_empty.ensures ∙ faulty)

pub shrink_sound-requires-clause-sound : goal.shrink_sound-requires-clause-sound
shrink_sound-requires-clause-sound g c =
    let clean : c.is_empty.result ≡ true = first_of (search rules, grind (arith, nat_tests)) in
    rw c.in_ok-report.ensures.untouched.held
    (one_told (g.A.Device.state c.args.input.now).held (λ image is. none_reported Thin Counts image c.in_ok-report.report is (sym c.is_empty.ensures ∙ clean)) c.in_ok-report.ensures.report)

pub returns-clause-works : goal.returns-clause-works
returns-clause-works g c others notes first fresh was _ =
    let kept = c.in_ok-report.ensures in
    c.shrink_sound.ensures.works c.args.self.now.from.now c.args.self.now.to.now c.args.self.now.pool.now others notes first fresh (record {
      input = still_opened was.input kept.access kept.path kept.untouched kept.kept;
      output = was.output;
      third = was.third;
    })
