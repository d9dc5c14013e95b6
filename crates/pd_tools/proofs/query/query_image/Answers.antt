use Rattle.std.proofs.Common.{◌≡◌, true, false, sym, ◌∙◌, arith, rules}
use Rattle.std.proofs.lemmas.Bool.Decides.{nat_tests}
use Rattle.std.specs.Option.{option_copied}
use Rattle.pd_tools.proofs.Checks.{query_done, query_faulty, query_unput, query_unread, reads_untouched, reads_used}
use Rattle.pd_tools.proofs.query.query_image.Goals as goal

pub returns-in_err-report : goal.returns-in_err-report
returns-in_err-report g c others notes =
    let stopped =
    query_unread c.args.asked (option_copied c.args.file) c.args.image.now others notes (g.K.Sink.state c.args.out.now) (g.A.Device.state c.args.input.now) c.requires.out
    (g.A.Device.state c.read_report.new.input) c.in_err-report.field-0.0 c.in_err-report.ensures.used c.in_err-report.ensures.untouched (rw (c.kind.ensures, c.stage.ensures) at c.in_err-report.ensures.stopped) in
    search rules

pub returns-then-not-is_empty : goal.returns-then-not-is_empty
returns-then-not-is_empty g c others notes =
    let faulty : c.is_empty.result ≡ false = first_of (search rules, grind (arith, nat_tests)) in
    query_faulty c.args.asked (option_copied c.args.file) c.args.image.now others notes (g.K.Sink.state c.args.out.now) (g.A.Device.state c.args.input.now) c.requires.out
    (g.A.Device.state c.read_report.new.input) c.in_ok-report.report (rw (c.kind.ensures, c.stage.ensures) at c.in_ok-report.ensures.report) c.in_ok-report.ensures.used c.in_ok-report.ensures.untouched c.in_ok-report.ensures.access
    (sym c.is_empty.ensures ∙ faulty)

pub returns : goal.returns
returns g c others notes =
    let clean : c.is_empty.result ≡ true = first_of (search rules, grind (arith, nat_tests)) in
    let kept = c.in_ok-put_text.ensures.kept in
    let puts = rw c.in_ok-report.ensures.untouched.held at c.in_ok-put_text.ensures.text in
    query_done c.args.asked (option_copied c.args.file) c.args.image.now others notes (g.K.Sink.state c.args.out.now) (g.A.Device.state c.args.input.now) c.requires.out
    (g.A.Device.state c.put_text.new.input) c.in_ok-report.report (rw (c.kind.ensures, c.stage.ensures) at c.in_ok-report.ensures.report)
    (reads_used c.args.image.now (g.A.Device.state c.read_report.new.input) (g.A.Device.state c.put_text.new.input) kept c.in_ok-report.ensures.used)
    (reads_untouched (g.A.Device.state c.args.input.now) (g.A.Device.state c.read_report.new.input) (g.A.Device.state c.put_text.new.input) kept c.in_ok-report.ensures.untouched)
    (kept.access ∙ c.in_ok-report.ensures.access)
    (sym c.is_empty.ensures ∙ clean) (g.K.Sink.state c.put_text.new.out) c.in_ok-put_text.ensures.used puts.text puts.told c.in_ok-put_text.ensures.access puts.whole

pub returns-in_err-put_text : goal.returns-in_err-put_text
returns-in_err-put_text g c others notes =
    let clean : c.is_empty.result ≡ true = first_of (search rules, grind (arith, nat_tests)) in
    let kept = c.in_err-put_text.ensures.kept in
    let puts = rw c.in_ok-report.ensures.untouched.held at c.in_err-put_text.ensures.text in
    let stopped =
    query_unput c.args.asked (option_copied c.args.file) c.args.image.now others notes (g.K.Sink.state c.args.out.now) (g.A.Device.state c.args.input.now) c.requires.out
    (g.A.Device.state c.put_text.new.input) c.in_ok-report.report (rw (c.kind.ensures, c.stage.ensures) at c.in_ok-report.ensures.report)
    (reads_used c.args.image.now (g.A.Device.state c.read_report.new.input) (g.A.Device.state c.put_text.new.input) kept c.in_ok-report.ensures.used)
    (reads_untouched (g.A.Device.state c.args.input.now) (g.A.Device.state c.read_report.new.input) (g.A.Device.state c.put_text.new.input) kept c.in_ok-report.ensures.untouched)
    (kept.access ∙ c.in_ok-report.ensures.access)
    (sym c.is_empty.ensures ∙ clean) (g.K.Sink.state c.put_text.new.out) c.in_err-put_text.ensures.used puts.text puts.told c.in_err-put_text.field-0.0 puts.front
    (rw c.in_ok-report.ensures.kept at c.in_err-put_text.ensures.stopped) in
    search rules
