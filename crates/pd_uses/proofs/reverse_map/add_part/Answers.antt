use Rattle.pd_lines.specs.Printer.{printing}
use Rattle.pd_lines.proofs.Printing.{begun_none, begun_with}
use Rattle.pd_uses.specs.FoundUses.{found_uses}
use Rattle.pd_uses.specs.Uses.{ordered_uses}
use Rattle.pd_uses.specs.Uses.{uses_text}
use Rattle.pd_uses.proofs.reverse_map.add_part.Goals as goal

pub returns-in_err-uses-clause-prints : goal.returns-in_err-uses-clause-prints
returns-in_err-uses-clause-prints g c =
    begun_with c.from_residual.result c.from_residual.ensures.0
    (begun_none (uses_text (ordered_uses c.args.region.first c.args.region.end (found_uses c.args.found.now))) (printing g.K.Sink.state c.args.printer.now))
