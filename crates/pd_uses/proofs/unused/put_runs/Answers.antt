use Rattle.std.proofs.Common.{rules, subst}
use Rattle.pd_lines.specs.Printer.{printing}
use Rattle.pd_answers.specs.QueryLines.{unused_lines}
use Rattle.pd_query.specs.Query.{PutsText}
use Rattle.pd_query.proofs.QueryLemmas.{text_finished, text_stopped}
use Rattle.pd_uses.specs.Unused.{without_faults}
use Rattle.pd_uses.proofs.unused.put_runs.Goals as goal

pub returns-clause-text : goal.returns-clause-text
returns-clause-text g c =
    let state = g.K.Sink.state in
    let held = without_faults (g.D.Device.state c.args.dev.now).held in
    subst (λ out. PutsText held unused_lines c.finish.result (state c.args.out.now).written (state out).written) (search rules)
    (text_finished held c.finish.result {first = state c.args.out.now} {sink = state c.finish.new.printer.0}
    (rw (c.to_sink-printer.ensures.none, c.to_sink-printer.ensures.same) at c.in_ok-add_runs.ensures.prints) c.finish.ensures.finishes)

pub returns-in_err-add_runs-clause-text : goal.returns-in_err-add_runs-clause-text
returns-in_err-add_runs-clause-text g c =
    let state = g.K.Sink.state in
    let held = without_faults (g.D.Device.state c.args.dev.now).held in
    subst (λ out. PutsText held unused_lines c.from_residual.result (state c.args.out.now).written (state out).written) (search rules)
    (text_stopped held c.from_residual.result {first = state c.args.out.now} {mid = printing state c.add_runs.new.printer} c.from_residual.ensures.0
    (rw (c.to_sink-printer.ensures.none, c.to_sink-printer.ensures.same) at c.in_err-add_runs.ensures.prints))
