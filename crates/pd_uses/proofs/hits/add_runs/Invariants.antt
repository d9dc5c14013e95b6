use Rattle.std.proofs.Common.{◌≡◌, ◌++◌, map, take}
use Rattle.pd_uses.specs.Hits.{runs_hits, use_of}
use Rattle.pd_uses.proofs.hits.add_runs.Given as goal

abbrev pub invariant-loop-run : goal.invariant-loop-run
invariant-loop-run l = l.uses.items ≡ l.initial.uses.items ++ map (use_of l.id) (runs_hits (take l.run-index l.runs))
