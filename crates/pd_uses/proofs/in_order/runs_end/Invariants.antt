use Rattle.std.proofs.Common.{ℕ, map, take}
use Rattle.pd_uses.specs.Hits.{runs_hits, use_of}
use Rattle.pd_uses.specs.InOrder.{Rises}
use Rattle.pd_uses.proofs.in_order.runs_end.Given as goal

abbrev pub invariant-loop-run : goal.invariant-loop-run
invariant-loop-run l = (id : ℕ) → Rises l.at l.end l.last (map (use_of id) (runs_hits (take l.run-index l.runs)))
