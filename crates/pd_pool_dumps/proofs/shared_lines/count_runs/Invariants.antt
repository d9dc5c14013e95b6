use Rattle.std.proofs.Common.{◌≡◌, ◌≤◌, ◌-◌, ◌^◌, IfSome}
use Rattle.pd_image.specs.Device.{OnlyReads}
use Rattle.pd_meaning_thin.specs.Runs.{runs_left, runs_number}
use Rattle.pd_pool_dumps.specs.SharedLines.{entries_in}
use Rattle.pd_pool_dumps.proofs.SharedTextLemmas.{entries_after}
use Rattle.pd_pool_dumps.proofs.shared_lines.count_runs.Given as goal

abbrev pub invariant-loop-run : goal.invariant-loop-run
invariant-loop-run g l = record {
  counted : IfSome (g.D.Device.state l.initial.dev).held (λ image. entries_after l.entries (runs_left image l.runs) ≡ entries_in (runs_left image l.initial.runs));
  fits : l.entries ≤ 2 ^ 64 - 1;
  kept : OnlyReads (g.D.Device.state l.initial.dev) (g.D.Device.state l.dev);
  dev_faults : (g.D.Device.state l.dev).faults ≡ (g.D.Device.state l.initial.dev).faults;
}

abbrev pub decreases-loop-run : goal.decreases-loop-run
decreases-loop-run g l = runs_number l.runs
