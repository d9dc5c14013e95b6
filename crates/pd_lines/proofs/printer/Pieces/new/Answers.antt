use Rattle.pd_lines.proofs.Printing.{gathers_start}
use Rattle.pd_lines.proofs.printer.Pieces.new.Goals as goal

pub returns-clause-start : goal.returns-clause-start
returns-clause-start c = λ start. rw c.new.ensures (gathers_start start)
