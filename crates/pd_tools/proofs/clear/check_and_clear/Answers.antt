use Rattle.std.proofs.Common.{rules, arith, ◌∙◌}
use Rattle.pd_kinds.specs.Flagged.{kind_of}
use Rattle.pd_kinds.specs.declared.kind.Stage.TheVariants.{Counts}
use Rattle.pd_tools.proofs.Clears.{untouched_left, left_before, synced_too, clearing_unread, clearing_done, clearing_unput, clearing_failed}
use Rattle.pd_tools.proofs.FewReads.{few, few_clearing}
use Rattle.pd_tools.proofs.clear.check_and_clear.Goals as goal

pub returns-in_err-report : goal.returns-in_err-report
returns-in_err-report g c others notes fresh =
    let stopped =
    clearing_unread c.args.flagged c.args.passing c.args.image.now others notes (g.K.Sink.state c.args.out.now) (g.A.Device.state c.args.input.now) (g.A.Device.state c.read_report.new.input) c.in_err-report.field-0.0
    c.requires.out (g.met.A.Device.unwritten c.args.input.now c.requires.input) c.in_err-report.ensures.used c.in_err-report.ensures.untouched (rw c.kind.ensures at c.in_err-report.ensures.reads) (rw c.kind.ensures at c.in_err-report.ensures.stopped) in
    search rules

pub returns-in-Ok-clear_if_passed : goal.returns-in-Ok-clear_if_passed
returns-in-Ok-clear_if_passed g c others notes fresh =
    let old = g.A.Device.state c.args.input.now in
    let read = g.A.Device.state c.read_report.new.input in
    let new = g.A.Device.state c.clear_if_passed.new.input in
    let synced = g.met.A.Device.unwritten c.args.input.now c.requires.input in
    let kept = c.clear_if_passed.ensures.kept in
    clearing_done c.args.flagged c.args.passing c.args.image.now others notes (g.K.Sink.state c.args.out.now) (g.K.Sink.state c.put_report.new.out) old new c.in_ok-report.report
    (rw c.kind.ensures at c.in_ok-report.ensures.report) c.put_report.ensures.used (kept.access ∙ c.in_ok-report.ensures.access) (rw kept.path (c.in_ok-report.ensures.used.named (λ e. omega (arith, c.in_ok-report.ensures.access))))
    (few_clearing c.args.flagged c.args.passing c.in_ok-report.report old.held old.reads read.reads new.reads (rw c.kind.ensures at c.in_ok-report.ensures.report) (rw c.kind.ensures at c.in_ok-report.ensures.reads) c.clear_if_passed.ensures.reads c.clear_if_passed.ensures.unread)
    c.in-Ok-clear_if_passed.passed c.in-Ok-clear_if_passed.ensures.passed c.in-Ok.ensures.whole c.in-Ok.ensures.access
    (left_before c.args.flagged c.args.passing c.in_ok-report.report _ old read new synced c.in_ok-report.ensures.untouched c.in_ok-report.ensures.kept
    (c.in-Ok-clear_if_passed.ensures.left (synced_too old read synced c.in_ok-report.ensures.untouched)))

pub returns-in-Err-clear_if_passed : goal.returns-in-Err-clear_if_passed
returns-in-Err-clear_if_passed g c others notes fresh =
    let old = g.A.Device.state c.args.input.now in
    let read = g.A.Device.state c.read_report.new.input in
    let new = g.A.Device.state c.clear_if_passed.new.input in
    let synced = g.met.A.Device.unwritten c.args.input.now c.requires.input in
    let kept = c.clear_if_passed.ensures.kept in
    clearing_failed c.args.flagged c.args.passing c.args.image.now others notes (g.K.Sink.state c.args.out.now) (g.K.Sink.state c.put_report.new.out) old new c.in_ok-report.report
    (rw c.kind.ensures at c.in_ok-report.ensures.report) c.put_report.ensures.used (kept.access ∙ c.in_ok-report.ensures.access) (rw kept.path (c.in_ok-report.ensures.used.named (λ e. omega (arith, c.in_ok-report.ensures.access))))
    (few_clearing c.args.flagged c.args.passing c.in_ok-report.report old.held old.reads read.reads new.reads (rw c.kind.ensures at c.in_ok-report.ensures.report) (rw c.kind.ensures at c.in_ok-report.ensures.reads) c.clear_if_passed.ensures.reads c.clear_if_passed.ensures.unread)
    c.in-Ok.ensures.whole (rw c.in_ok-report.ensures.kept at c.in-Err-clear_if_passed.ensures.faults.0)
    (λ status some. left_before c.args.flagged c.args.passing c.in_ok-report.report status old read new synced c.in_ok-report.ensures.untouched c.in_ok-report.ensures.kept
    (c.in-Err-clear_if_passed.ensures.left (synced_too old read synced c.in_ok-report.ensures.untouched) (c.in_ok-report.ensures.kept ∙ fresh) status some))

pub returns-in-Err : goal.returns-in-Err
returns-in-Err g c others notes fresh =
    let old = g.A.Device.state c.args.input.now in
    let read = g.A.Device.state c.read_report.new.input in
    let synced = g.met.A.Device.unwritten c.args.input.now c.requires.input in
    clearing_unput c.args.flagged c.args.passing c.args.image.now others notes (g.K.Sink.state c.args.out.now) (g.K.Sink.state c.put_report.new.out) old read c.in_ok-report.report
    (rw c.kind.ensures at c.in_ok-report.ensures.report) c.put_report.ensures.used c.in_ok-report.ensures.access (c.in_ok-report.ensures.used.named (λ e. omega (arith, c.in_ok-report.ensures.access)))
    (few (kind_of c.args.flagged) Counts old.held old.reads read.reads (rw c.kind.ensures at c.in_ok-report.ensures.reads))
    c.put_report.ensures.front c.in-Err.ensures.faults.0
    (untouched_left c.args.flagged c.args.passing c.in_ok-report.report old read synced 6 (λ e. omega arith) c.in_ok-report.ensures.untouched)
