use Rattle.std.proofs.Common.{◌≡◌, take}
use Rattle.std.specs.List.{flat_map}
use Rattle.pd_lines.specs.Printer.{printing}
use Rattle.pd_lines.specs.Printing.{Printed}
use Rattle.pd_kept.specs.KeptCache.{told_root}
use Rattle.pd_kept.proofs.cache_lines.print_roots.Given as goal

abbrev pub invariant-loop-root : goal.invariant-loop-root
invariant-loop-root g l = record {
  same_reference : l.printer.out.ghost_name ≡ l.initial.printer.out.ghost_name;
  printed : Printed (flat_map told_root (take l.root-index l.roots)) (printing g.K.Sink.state l.initial.printer) (printing g.K.Sink.state l.printer);
  faults : (g.K.Sink.state l.printer.out.now).faults ≡ (g.K.Sink.state l.initial.printer.out.now).faults;
}
