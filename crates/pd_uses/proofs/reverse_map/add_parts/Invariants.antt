use Rattle.std.proofs.Common.{◌≡◌, ◌≤◌}
use Rattle.pd_lines.specs.Printer.{printing}
use Rattle.pd_uses.specs.FoundUses.{found_uses}
use Rattle.pd_uses.specs.Uses.{ordered_uses}
use Rattle.pd_uses.specs.Uses.{uses_text}
use Rattle.pd_uses.proofs.LineLemmas.{LinesSoFar}
use Rattle.pd_uses.proofs.reverse_map.add_parts.Given as goal

abbrev pub invariant-loop-cut : goal.invariant-loop-cut
invariant-loop-cut g l = record {
  same_reference : l.printer.out.ghost_name ≡ l.initial.printer.out.ghost_name;
  least : l.first ≤ l.last;
  printed : LinesSoFar (uses_text (ordered_uses l.fn.region.first l.fn.region.end (found_uses l.found))) (uses_text (ordered_uses l.first l.last (found_uses l.found))) (printing g.K.Sink.state l.initial.printer) (printing g.K.Sink.state l.printer);
  faults : (g.K.Sink.state l.printer.out.now).faults ≡ (g.K.Sink.state l.initial.printer.out.now).faults;
}
