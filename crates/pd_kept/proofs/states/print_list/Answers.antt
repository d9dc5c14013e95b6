use Rattle.std.specs.List.{flat_map}
use Rattle.pd_lines.specs.Printer.{printing}
use Rattle.pd_lines.proofs.Printing.{begun_first, begun_with, prints_then}
use Rattle.pd_answers.specs.NamedRepairs.{more_line}
use Rattle.pd_kept.specs.States.{found_line}
use Rattle.pd_kept.proofs.states.print_list.Goals as goal

pub returns-in_err-print_states-clause-prints : goal.returns-in_err-print_states-clause-prints
returns-in_err-print_states-clause-prints g c =
    begun_with c.from_residual.result c.from_residual.ensures.0
    (begun_first (more_line c.args.found.now.number) (rw c.as_slice.ensures.value at c.in_err-print_states.ensures.prints))

pub returns-clause-prints : goal.returns-clause-prints
returns-clause-prints g c =
    prints_then (flat_map (found_line c.args.word.now) c.args.found.now.best.items) (more_line c.args.found.now.number) (printing g.K.Sink.state c.print_more.new.printer) c.print_more.result
    (rw c.as_slice.ensures.value at c.in_ok-print_states.ensures.prints) c.print_more.ensures.prints
