use Rattle.std.proofs.Common.{◌≡◌}
use Rattle.pd_image.specs.Device.{OnlyReads}
use Rattle.pd_lines.specs.Printer.{printing}
use Rattle.pd_meaning_thin.specs.Runs.{runs_left, runs_number}
use Rattle.pd_pool_dumps.specs.ThinText.{given_text}
use Rattle.pd_query.proofs.QueryLemmas.{PrintsSoFar}
use Rattle.pd_pool_dumps.proofs.shared_lines.add_runs.Given as goal

abbrev pub invariant-loop-run : goal.invariant-loop-run
invariant-loop-run g l = record {
  same_reference : l.printer.out.ghost_name ≡ l.initial.printer.out.ghost_name;
  so_far : PrintsSoFar (g.D.Device.state l.initial.dev).held (λ image. given_text (runs_left image l.initial.runs)) (λ image. given_text (runs_left image l.runs))
      (printing g.K.Sink.state l.initial.printer) (printing g.K.Sink.state l.printer);
  kept : OnlyReads (g.D.Device.state l.initial.dev) (g.D.Device.state l.dev);
  dev_faults : (g.D.Device.state l.dev).faults ≡ (g.D.Device.state l.initial.dev).faults;
  out_faults : (g.K.Sink.state l.printer.out.now).faults ≡ (g.K.Sink.state l.initial.printer.out.now).faults;
}

abbrev pub decreases-loop-run : goal.decreases-loop-run
decreases-loop-run g l = runs_number l.runs
