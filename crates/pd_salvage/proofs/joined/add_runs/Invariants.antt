use Rattle.std.proofs.Common.{◌≡◌, ◌++◌, length}
use Rattle.pd_meaning_thin.specs.Packed.{runs_from}
use Rattle.pd_salvage.proofs.joined.add_runs.Given as goal

-- the runs that were put and those that are left are those that were to be put
abbrev pub invariant-loop-run : goal.invariant-loop-run
invariant-loop-run l = l.runs ++ runs_from l.more l.place ≡ l.fn.runs ++ runs_from l.fn.more l.fn.place

abbrev pub decreases-loop-run : goal.decreases-loop-run
decreases-loop-run l = length (runs_from l.more l.place)
