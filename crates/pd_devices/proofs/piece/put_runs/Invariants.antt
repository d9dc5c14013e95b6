use Rattle.std.proofs.Common.{◌≡◌, List, ◌++◌, length}
use Rattle.pd_kinds.specs.Node.{Entry}
use Rattle.pd_build.specs.Tree.{items_to_come}
use Rattle.pd_meaning_thin.specs.Packed.{runs_from}
use Rattle.pd_laid.specs.PoolText.{mappings_of_runs}
use Rattle.pd_devices.specs.SharedGrowth.{CanBeLaid, TakesAll, items_of_runs, runs_of}
use Rattle.pd_devices.proofs.piece.put_runs.Given as goal

-- some items were taken, and those of the runs that are left are the others
abbrev pub invariant-loop-run : goal.invariant-loop-run
invariant-loop-run g l = record {
  same_reference : l.draft.dev.ghost_name ≡ l.initial.draft.dev.ghost_name;
  taken : List Entry;
  all : items_of_runs (runs_of l.fn.runs) ≡ taken ++ items_of_runs (runs_of (runs_from l.fn.runs l.place));
  takes : TakesAll 8 taken l.initial.builder l.builder l.initial.row l.row
      (record { device = g.D.Device.state l.initial.draft.dev.now; place = l.initial.draft.next }) (record { device = g.D.Device.state l.draft.dev.now; place = l.draft.next });
  can : CanBeLaid (runs_of (runs_from l.fn.runs l.place)) l.builder.low;
  more : items_to_come l.builder ≡ length (mappings_of_runs (runs_of (runs_from l.fn.runs l.place)));
}

abbrev pub decreases-loop-run : goal.decreases-loop-run
decreases-loop-run g l = length (runs_from l.fn.runs l.place)
