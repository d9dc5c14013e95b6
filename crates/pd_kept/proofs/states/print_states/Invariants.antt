use Rattle.std.proofs.Common.{◌≡◌, take}
use Rattle.std.specs.List.{flat_map}
use Rattle.pd_lines.specs.Printer.{printing}
use Rattle.pd_lines.specs.Printing.{Printed}
use Rattle.pd_kept.specs.States.{found_line}
use Rattle.pd_kept.proofs.states.print_states.Given as goal

abbrev pub invariant-loop-state : goal.invariant-loop-state
invariant-loop-state g l = record {
  same_reference : l.printer.out.ghost_name ≡ l.initial.printer.out.ghost_name;
  printed : Printed (flat_map (found_line l.word) (take l.state-index l.states)) (printing g.K.Sink.state l.initial.printer) (printing g.K.Sink.state l.printer);
  faults : (g.K.Sink.state l.printer.out.now).faults ≡ (g.K.Sink.state l.initial.printer.out.now).faults;
}
