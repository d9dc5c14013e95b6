use Rattle.pd_lines.specs.Printer.{printing}
use Rattle.pd_lines.proofs.Printing.{begun_first, begun_with, prints_then}
use Rattle.pd_uses.specs.Uses.{blocks_part, details_part}
use Rattle.pd_uses.proofs.device_list.add_parts.Goals as goal

pub returns-in_err-print_line-clause-prints : goal.returns-in_err-print_line-clause-prints
returns-in_err-print_line-clause-prints g c =
    begun_with c.from_residual.result c.from_residual.ensures.0
    (begun_first (details_part c.args.row.now) (rw (c.as_bytes.ensures.bytes, c.blocks_text.ensures) at c.in_err-print_line.ensures.prints))

pub returns-clause-prints : goal.returns-clause-prints
returns-clause-prints g c =
    prints_then (blocks_part c.args.row.now c.args.exclusive) (details_part c.args.row.now) (printing g.K.Sink.state c.print_line-2.new.printer) c.print_line-2.result
    (rw (c.as_bytes.ensures.bytes, c.blocks_text.ensures) at c.in_ok-print_line.ensures.prints) (rw (c.as_bytes-2.ensures.bytes, c.details_text.ensures) at c.print_line-2.ensures.prints)
