use Rattle.std.proofs.Common.{rules, sym, subst}
use Rattle.pd_kinds.proofs.ResultLemmas.{if_any}
use Rattle.pd_lines.specs.Printer.{printing}
use Rattle.pd_meaning_era.specs.Parts.{eras_left}
use Rattle.pd_query.specs.Query.{PutsText}
use Rattle.pd_query.proofs.QueryLemmas.{prints_told, text_finished, text_stopped}
use Rattle.pd_dumps.specs.SinceLines.{since_text}
use Rattle.pd_dumps.proofs.SinceLemmas.{all_lines}
use Rattle.pd_dumps.proofs.since.put_since.Goals as goal

pub returns-clause-text : goal.returns-clause-text
returns-clause-text g c =
    let state = g.K.Sink.state in
    subst (λ out. PutsText (g.D.Device.state c.args.dev.now).held (λ image. since_text c.args.since (eras_left image c.args.eras.now)) c.finish.result (state c.args.out.now).written (state out).written) (search rules)
    (text_finished (g.D.Device.state c.args.dev.now).held c.finish.result {first = state c.args.out.now} {sink = state c.finish.new.printer.0}
    (prints_told (g.D.Device.state c.args.dev.now).held (if_any (g.D.Device.state c.args.dev.now).held (λ image. sym (all_lines c.args.since (eras_left image c.args.eras.now))))
    (rw (c.to_sink-printer.ensures.none, c.to_sink-printer.ensures.same) at c.in_ok-add_runs.ensures.prints)) c.finish.ensures.finishes)

pub returns-in_err-add_runs-clause-text : goal.returns-in_err-add_runs-clause-text
returns-in_err-add_runs-clause-text g c =
    let state = g.K.Sink.state in
    subst (λ out. PutsText (g.D.Device.state c.args.dev.now).held (λ image. since_text c.args.since (eras_left image c.args.eras.now)) c.from_residual.result (state c.args.out.now).written (state out).written) (search rules)
    (text_stopped (g.D.Device.state c.args.dev.now).held c.from_residual.result {first = state c.args.out.now} {mid = printing state c.add_runs.new.printer} c.from_residual.ensures.0
    (prints_told (g.D.Device.state c.args.dev.now).held (if_any (g.D.Device.state c.args.dev.now).held (λ image. sym (all_lines c.args.since (eras_left image c.args.eras.now))))
    (rw (c.to_sink-printer.ensures.none, c.to_sink-printer.ensures.same) at c.in_err-add_runs.ensures.prints)))
