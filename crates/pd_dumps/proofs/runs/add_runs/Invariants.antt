use Rattle.std.proofs.Common.{◌≡◌, ◌+◌, ◌^◌, ◌<◌, map}
use Rattle.pd_image.specs.Device.{OnlyReads}
use Rattle.pd_lines.specs.Printer.{printing}
use Rattle.pd_meaning_era.specs.Parts.{blocks_left, eras_left}
use Rattle.pd_query.proofs.QueryLemmas.{PrintsSoFar}
use Rattle.pd_dumps.specs.EraLines.{end_of, text_from}
use Rattle.pd_dumps.proofs.runs.add_runs.Given as goal

abbrev pub invariant-loop-run : goal.invariant-loop-run
invariant-loop-run g l = record {
  same_reference : l.printer.out.ghost_name ≡ l.initial.printer.out.ghost_name;
  so_far : PrintsSoFar (g.D.Device.state l.initial.dev).held (λ image. text_from (g.R.RunKind.line l.fn.kind) l.initial.run (map (g.R.RunKind.counts l.fn.kind) (eras_left image l.initial.eras)))
      (λ image. text_from (g.R.RunKind.line l.fn.kind) l.run (map (g.R.RunKind.counts l.fn.kind) (eras_left image l.eras))) (printing g.K.Sink.state l.initial.printer) (printing g.K.Sink.state l.printer);
  few : end_of l.run + blocks_left l.eras < 2 ^ 32;
  kept : OnlyReads (g.D.Device.state l.initial.dev) (g.D.Device.state l.dev);
  dev_faults : (g.D.Device.state l.dev).faults ≡ (g.D.Device.state l.initial.dev).faults;
  out_faults : (g.K.Sink.state l.printer.out.now).faults ≡ (g.K.Sink.state l.initial.printer.out.now).faults;
}

abbrev pub decreases-loop-run : goal.decreases-loop-run
decreases-loop-run g l = blocks_left l.eras
