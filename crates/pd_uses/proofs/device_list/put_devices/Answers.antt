use Rattle.std.proofs.Common.{rules, subst}
use Rattle.pd_lines.specs.Printer.{printing}
use Rattle.pd_query.specs.Query.{PutsText}
use Rattle.pd_query.proofs.QueryLemmas.{text_finished, text_stopped}
use Rattle.pd_meaning_thin.specs.Given.{super_rows}
use Rattle.pd_uses.specs.Uses.{tallied_rows}
use Rattle.pd_uses.proofs.device_list.put_devices.Goals as goal

pub returns-clause-text : goal.returns-clause-text
returns-clause-text g c =
    let state = g.K.Sink.state in
    subst (λ out. PutsText (g.D.Device.state c.args.dev.now).held (λ image. tallied_rows c.args.exclusive.now (super_rows image c.args.s.now)) c.finish.result (state c.args.out.now).written (state out).written) (search rules)
    (text_finished (g.D.Device.state c.args.dev.now).held c.finish.result {first = state c.args.out.now} {sink = state c.finish.new.printer.0}
    (rw (c.to_sink-printer.ensures.none, c.to_sink-printer.ensures.same) at c.in_ok-add_devices.ensures.prints) c.finish.ensures.finishes)

pub returns-in_err-add_devices-clause-text : goal.returns-in_err-add_devices-clause-text
returns-in_err-add_devices-clause-text g c =
    let state = g.K.Sink.state in
    subst (λ out. PutsText (g.D.Device.state c.args.dev.now).held (λ image. tallied_rows c.args.exclusive.now (super_rows image c.args.s.now)) c.from_residual.result (state c.args.out.now).written (state out).written) (search rules)
    (text_stopped (g.D.Device.state c.args.dev.now).held c.from_residual.result {first = state c.args.out.now} {mid = printing state c.add_devices.new.printer} c.from_residual.ensures.0
    (rw (c.to_sink-printer.ensures.none, c.to_sink-printer.ensures.same) at c.in_err-add_devices.ensures.prints))
