use Rattle.std.specs.List.{flat_map}
use Rattle.pd_lines.specs.Printer.{printing}
use Rattle.pd_lines.proofs.Printing.{begun_first, begun_with, prints_then}
use Rattle.pd_kept.specs.Kept.{last_line, line_of}
use Rattle.pd_kept.proofs.lines.print_kept.Goals as goal

pub returns-in_err-print_devices-clause-prints : goal.returns-in_err-print_devices-clause-prints
returns-in_err-print_devices-clause-prints g c =
    begun_with c.from_residual.result c.from_residual.ensures.0
    (begun_first (last_line c.args.kept.now) (rw c.as_slice.ensures.value at c.in_err-print_devices.ensures.prints))

pub returns-clause-prints : goal.returns-clause-prints
returns-clause-prints g c =
    prints_then (flat_map line_of c.args.kept.now.devices.items) (last_line c.args.kept.now) (printing g.K.Sink.state c.print.new.self) c.print.result
    (rw c.as_slice.ensures.value at c.in_ok-print_devices.ensures.prints) (rw (c.as_bytes.ensures.bytes, c.last_line-line.ensures) at c.print.ensures.prints)
