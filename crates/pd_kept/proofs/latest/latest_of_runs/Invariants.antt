use Rattle.std.proofs.Common.{◌≡◌, max, length}
use Rattle.std.specs.Prelude.{fold}
use Rattle.pd_meaning_thin.specs.Packed.{runs_from}
use Rattle.pd_kept.specs.Kept.{times_of_runs}
use Rattle.pd_kept.proofs.latest.latest_of_runs.Given as goal

abbrev pub invariant-loop-run : goal.invariant-loop-run
invariant-loop-run l = fold max l.latest (times_of_runs (runs_from l.runs l.place)) ≡ fold max 0 (times_of_runs l.runs)

abbrev pub decreases-loop-run : goal.decreases-loop-run
decreases-loop-run l = length (runs_from l.runs l.place)
