use Rattle.std.proofs.Common.{ap}
use Rattle.pd_kinds.proofs.ResultLemmas.{if_any}
use Rattle.pd_lines.specs.Printer.{printing}
use Rattle.pd_meaning_thin.specs.Given.{super_rows}
use Rattle.pd_query.specs.declared.query.QueryFault.TheVariants.{Memory}
use Rattle.pd_query.proofs.QueryLemmas.{lost_with, prints_none, prints_told}
use Rattle.pd_uses.specs.Uses.{tallied_rows}
use Rattle.pd_uses.proofs.device_list.add_devices.Goals as goal

pub returns-in_err-devices-clause-prints : goal.returns-in_err-devices-clause-prints
returns-in_err-devices-clause-prints g c =
    lost_with (g.D.Device.state c.args.dev.now).held c.from_residual.result c.from_residual.ensures.0
    (prints_none (g.D.Device.state c.args.dev.now).held Memory (λ image. tallied_rows c.args.exclusive.now (super_rows image c.args.s.now)) (printing g.K.Sink.state c.args.printer.now))

pub returns-clause-prints : goal.returns-clause-prints
returns-clause-prints g c =
    let held = (g.D.Device.state c.args.dev.now).held in
    prints_told held (if_any held (λ image. ap (tallied_rows c.args.exclusive.now) (c.in_ok-devices.ensures.rows image))) c.add_rows.ensures.prints
