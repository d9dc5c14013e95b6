use Rattle.std.proofs.Common.{take}
use Rattle.pd_uses.specs.Hits.{runs_hits}
use Rattle.pd_uses.specs.Spans.{IsSpan}
use Rattle.pd_uses.proofs.hits.span_of.Given as goal

abbrev pub invariant-loop-run : goal.invariant-loop-run
invariant-loop-run l = IsSpan l.span (runs_hits (take l.run-index l.runs))
