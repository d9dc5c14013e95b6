use Rattle.std.proofs.Common.{◌≡◌, take}
use Rattle.std.specs.List.{flat_map}
use Rattle.pd_lines.specs.Printer.{printing}
use Rattle.pd_lines.specs.Printing.{Printed}
use Rattle.pd_uses.specs.InOrder.{visit_text}
use Rattle.pd_uses.proofs.in_order.print_visits.Given as goal

abbrev pub invariant-loop-visit : goal.invariant-loop-visit
invariant-loop-visit g l = record {
  same_reference : l.printer.out.ghost_name ≡ l.initial.printer.out.ghost_name;
  printed : Printed (flat_map (visit_text l.leaves) (take l.visit-index l.visits)) (printing g.K.Sink.state l.initial.printer) (printing g.K.Sink.state l.printer);
  faults : (g.K.Sink.state l.printer.out.now).faults ≡ (g.K.Sink.state l.initial.printer.out.now).faults;
}
