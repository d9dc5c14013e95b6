use Rattle.pd_lines.specs.Printer.{printing}
use Rattle.pd_lines.proofs.Printing.{prints_line}
use Rattle.pd_lines.proofs.printer.Printer.print.Goals as goal

pub returns-clause-prints : goal.returns-clause-prints
returns-clause-prints g c =
    prints_line c.args.line.now c.add.result (printing g.K.Sink.state c.args.self.now) _ c.add.ensures.gathered c.add.ensures.front (record { access = c.add.ensures.access; path = c.add.ensures.path })
