use Rattle.std.proofs.Common.{◌≡◌, ℕ, ◌+◌, ◌<◌}
use Rattle.pd_graph.specs.Audit.{count_at}
use Rattle.pd_smap.proofs.counting.MetaReferencesReferences.are_all.Given as goal

-- the counts before this one are as they are to be
abbrev pub invariant-loop-b : goal.invariant-loop-b
invariant-loop-b l = (k : ℕ) → l.first + k < l.b → count_at l.fn.self.0.now (l.first + k) ≡ l.count
