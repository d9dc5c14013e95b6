use Rattle.std.proofs.Common.{◌≡◌}
use Rattle.std.specs.List.{flat_map, range_with_len}
use Rattle.pd_lines.specs.Printer.{printing}
use Rattle.pd_lines.specs.Printing.{Printed}
use Rattle.pd_uses.specs.InOrder.{place_line}
use Rattle.pd_uses.proofs.in_order.print_run.Given as goal

abbrev pub invariant-loop-place : goal.invariant-loop-place
invariant-loop-place g l = record {
  same_reference : l.printer.out.ghost_name ≡ l.initial.printer.out.ghost_name;
  printed : Printed (flat_map (place_line l.id l.run) (range_with_len 0 l.place)) (printing g.K.Sink.state l.initial.printer) (printing g.K.Sink.state l.printer);
  faults : (g.K.Sink.state l.printer.out.now).faults ≡ (g.K.Sink.state l.initial.printer.out.now).faults;
}
