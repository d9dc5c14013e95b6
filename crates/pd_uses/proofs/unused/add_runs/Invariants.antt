use Rattle.std.proofs.Common.{◌≡◌, ◌-◌, ◌≤◌, IfSome}
use Rattle.pd_answers.specs.QueryLines.{unused_lines}
use Rattle.pd_image.specs.Device.{OnlyReads}
use Rattle.pd_lines.specs.Printer.{printing}
use Rattle.pd_query.proofs.QueryLemmas.{PrintsSoFar}
use Rattle.pd_uses.specs.Unused.{IsReading, image_lines_left, without_faults}
use Rattle.pd_uses.proofs.unused.add_runs.Given as goal

abbrev pub invariant-loop-next : goal.invariant-loop-next
invariant-loop-next g l = record {
  same_reference : l.printer.out.ghost_name ≡ l.initial.printer.out.ghost_name;
  so_far : PrintsSoFar (without_faults (g.D.Device.state l.initial.dev).held) unused_lines (λ image. image_lines_left image l.run l.counts.at)
      (printing g.K.Sink.state l.initial.printer) (printing g.K.Sink.state l.printer);
  reading : IfSome (without_faults (g.D.Device.state l.initial.dev).held) (λ image. IsReading image l.bitmap.0 l.run l.counts);
  first : IfSome l.run (λ first. first ≤ l.counts.at);
  within : l.counts.at ≤ l.counts.end;
  kept : OnlyReads (g.D.Device.state l.initial.dev) (g.D.Device.state l.dev);
  dev_faults : (g.D.Device.state l.dev).faults ≡ (g.D.Device.state l.initial.dev).faults;
  out_faults : (g.K.Sink.state l.printer.out.now).faults ≡ (g.K.Sink.state l.initial.printer.out.now).faults;
}

abbrev pub decreases-loop-next : goal.decreases-loop-next
decreases-loop-next g l = l.counts.end - l.counts.at
