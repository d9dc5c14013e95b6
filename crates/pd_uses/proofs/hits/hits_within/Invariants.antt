use Rattle.std.proofs.Common.{◌≡◌, filter, take}
use Rattle.pd_uses.specs.Hits.{is_hit, runs_hits}
use Rattle.pd_uses.proofs.hits.hits_within.Given as goal

abbrev pub invariant-loop-run : goal.invariant-loop-run
invariant-loop-run l = l.hits.items ≡ filter (is_hit l.region) (runs_hits (take l.run-index l.runs))
