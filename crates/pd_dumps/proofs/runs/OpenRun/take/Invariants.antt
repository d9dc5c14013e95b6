use Rattle.std.proofs.Common.{◌≡◌, ◌+◌, ◌-◌, ◌≤◌, ℕ, List, ◌++◌, drop, length, map}
use Rattle.pd_lines.specs.Printer.{printing}
use Rattle.pd_dumps.specs.EraLines.{PrintsFront}
use Rattle.pd_dumps.specs.EraLines.{end_of, text_from}
use Rattle.pd_dumps.proofs.runs.OpenRun.take.Given as goal

abbrev pub invariant-loop-at : goal.invariant-loop-at
invariant-loop-at g l = record {
  same_reference : l.printer.out.ghost_name ≡ l.initial.printer.out.ghost_name;
  so_far : (later : List ℕ) → PrintsFront (text_from (g.R.RunKind.line l.fn.kind) l.initial.self (map (g.R.RunKind.counts l.fn.kind) l.fn.eras ++ later))
      (text_from (g.R.RunKind.line l.fn.kind) l.self (map (g.R.RunKind.counts l.fn.kind) (drop l.at l.fn.eras) ++ later)) (printing g.K.Sink.state l.initial.printer) (printing g.K.Sink.state l.printer);
  within : l.at ≤ length l.fn.eras;
  number : end_of l.self ≡ end_of l.initial.self + l.at;
  faults : (g.K.Sink.state l.printer.out.now).faults ≡ (g.K.Sink.state l.initial.printer.out.now).faults;
}

abbrev pub decreases-loop-at : goal.decreases-loop-at
decreases-loop-at g l = length l.fn.eras - l.at
