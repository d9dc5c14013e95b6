use Rattle.std.proofs.Common.{◌++◌}
use Rattle.std.specs.Prelude.{codes}
use Rattle.pd_lines.specs.Printer.{printing}
use Rattle.pd_lines.proofs.Printing.{begun_after, begun_first, begun_with, prints_then, printed_both}
use Rattle.pd_answers.specs.KeptLines.{told_text}
use Rattle.pd_kept.specs.Kept.{told_of}
use Rattle.pd_kept.specs.States.{found_list, looked_text}
use Rattle.pd_kept.proofs.states.print_looked.Goals as goal

pub returns-in_err-print_list-clause-prints : goal.returns-in_err-print_list-clause-prints
unfolding looked_text
returns-in_err-print_list-clause-prints g c =
    begun_with c.from_residual.result c.from_residual.ensures.0
    (begun_first (found_list (codes "damaged ") c.args.looked.now.damaged ++ told_text (told_of c.args.looked.now.kept)) c.in_err-print_list.ensures.prints)

pub returns-in_err-print_list-2-clause-prints : goal.returns-in_err-print_list-2-clause-prints
unfolding looked_text
returns-in_err-print_list-2-clause-prints g c =
    begun_with c.from_residual-in_err-print_list-2.result c.from_residual-in_err-print_list-2.ensures.0
    (begun_after c.in_ok-print_list.ensures.prints (begun_first (told_text (told_of c.args.looked.now.kept)) c.in_err-print_list-2.ensures.prints))

pub returns-clause-prints : goal.returns-clause-prints
unfolding looked_text
returns-clause-prints g c =
    prints_then (found_list (codes "roots ") c.args.looked.now.sound) (found_list (codes "damaged ") c.args.looked.now.damaged ++ told_text (told_of c.args.looked.now.kept))
    (printing g.K.Sink.state c.print_kept.new.printer) c.print_kept.result c.in_ok-print_list.ensures.prints
    (prints_then (found_list (codes "damaged ") c.args.looked.now.damaged) (told_text (told_of c.args.looked.now.kept)) (printing g.K.Sink.state c.print_kept.new.printer) c.print_kept.result
    c.in_ok-print_list-2.ensures.prints c.print_kept.ensures.prints)
