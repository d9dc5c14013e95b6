use Rattle.pd_lines.specs.Printer.{printing}
use Rattle.pd_lines.proofs.Printing.{prints_line}
use Rattle.pd_lines.proofs.printer.Printer.print_line.Goals as goal

pub returns-clause-prints : goal.returns-clause-prints
returns-clause-prints g c =
    prints_line (g.L.TextLine.bytes c.args.line.now) c.add_line.result (printing g.K.Sink.state c.args.self.now) _ c.add_line.ensures.gathered c.add_line.ensures.front (record { access = c.add_line.ensures.access; path = c.add_line.ensures.path })
