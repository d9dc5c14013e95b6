use Rattle.std.proofs.Common.{◌≡◌, ◌++◌, length}
use Rattle.pd_meaning_thin.specs.Packed.{runs_from}
use Rattle.pd_salvage_shapes.proofs.shape.add_runs.Given as goal

-- the runs that are left are still to be added
abbrev pub invariant-loop-run : goal.invariant-loop-run
invariant-loop-run l = l.runs ++ runs_from l.more l.place ≡ l.initial.runs ++ l.more

abbrev pub decreases-loop-run : goal.decreases-loop-run
decreases-loop-run l = length (runs_from l.more l.place)
