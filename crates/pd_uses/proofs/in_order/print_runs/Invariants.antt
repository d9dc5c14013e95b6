use Rattle.std.proofs.Common.{◌≡◌, take}
use Rattle.std.specs.List.{flat_map}
use Rattle.pd_lines.specs.Printer.{printing}
use Rattle.pd_lines.specs.Printing.{Printed}
use Rattle.pd_uses.specs.InOrder.{run_text}
use Rattle.pd_uses.proofs.in_order.print_runs.Given as goal

abbrev pub invariant-loop-run : goal.invariant-loop-run
invariant-loop-run g l = record {
  same_reference : l.printer.out.ghost_name ≡ l.initial.printer.out.ghost_name;
  printed : Printed (flat_map (run_text l.id) (take l.run-index l.runs)) (printing g.K.Sink.state l.initial.printer) (printing g.K.Sink.state l.printer);
  faults : (g.K.Sink.state l.printer.out.now).faults ≡ (g.K.Sink.state l.initial.printer.out.now).faults;
}
