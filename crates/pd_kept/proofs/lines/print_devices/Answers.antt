use Rattle.std.proofs.Common.{refl, ◌∙◌}
use Rattle.pd_lines.specs.Printer.{printing}
use Rattle.pd_lines.proofs.Printing.{begun_with, printed_none}
use Rattle.pd_kept.specs.Kept.{line_of}
use Rattle.pd_kept.proofs.StatesLemmas.{all_printed, line_begun, line_printed}
use Rattle.pd_kept.proofs.lines.print_devices.Goals as goal

pub loop-device-init : goal.loop-device-init
loop-device-init g c = record { same_reference = refl; printed = printed_none (printing g.K.Sink.state c.args.printer.now); faults = refl }

pub loop-device-preserved : goal.loop-device-preserved
loop-device-preserved g c =
    let inv = c.loop-device.invariant in
    record {
      same_reference = c.in_ok-print_line.ensures.same_reference ∙ inv.same_reference;
      printed = line_printed line_of c.args.devices.now c.loop-device.device-index _ (printing g.K.Sink.state c.args.printer.now) (printing g.K.Sink.state c.loop-device.printer) (printing g.K.Sink.state c.print_line.new.self)
          c.loop-device-test.true inv.printed c.in_ok-print_line.ensures.prints;
      faults = c.in_ok-print_line.ensures.faults ∙ inv.faults;
    }

pub returns-in_err-print_line-clause-prints : goal.returns-in_err-print_line-clause-prints
returns-in_err-print_line-clause-prints g c =
    begun_with c.from_residual.result c.from_residual.ensures.0
    (line_begun line_of c.args.devices.now c.loop-device.device-index _ (printing g.K.Sink.state c.args.printer.now) (printing g.K.Sink.state c.loop-device.printer) (printing g.K.Sink.state c.print_line.new.self)
    c.loop-device-test.true c.loop-device.invariant.printed c.in_err-print_line.ensures.prints)

pub returns-clause-prints : goal.returns-clause-prints
returns-clause-prints g c =
    all_printed line_of c.args.devices.now c.loop-device.device-index (printing g.K.Sink.state c.args.printer.now) (printing g.K.Sink.state c.loop-device.printer) c.loop-device-test.false c.loop-device.invariant.printed
