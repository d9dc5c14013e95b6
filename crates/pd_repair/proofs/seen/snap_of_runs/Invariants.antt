use Rattle.std.proofs.Common.{◌≡◌, drop, take}
use Rattle.std.specs.List.{AllByRecursion}
use Rattle.pd_meaning_thin.specs.Packed.{runs_from}
use Rattle.pd_restore.specs.ShapeNeed.{IsRunIn}
use Rattle.pd_restore.specs.SavedLines.{behind_runs, in_runs}
use Rattle.pd_salvage.specs.Gather.{mappings_of_runs}
use Rattle.pd_repair.specs.Snaps.{is_twice, snap_after}
use Rattle.pd_repair.proofs.seen.snap_of_runs.Given as goal

abbrev pub invariant-loop-run : goal.invariant-loop-run
invariant-loop-run l = record {
  within : AllByRecursion (IsRunIn l.counted.size) (in_runs l.row l.runs);
  snap : snap_after (is_twice l.counted) l.latest (mappings_of_runs (in_runs l.row l.runs)) ≡ snap_after (is_twice l.counted) l.snap (mappings_of_runs (take l.number (runs_from l.runs l.initial.place)));
  stays : behind_runs l.row l.runs ≡ drop l.number (runs_from l.runs l.initial.place);
}

abbrev pub decreases-loop-run : goal.decreases-loop-run
decreases-loop-run l = l.row.left
