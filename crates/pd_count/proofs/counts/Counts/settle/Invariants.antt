use Rattle.std.proofs.Common.{◌≡◌}
use Rattle.pd_count.proofs.counts.Counts.settle.Given as goal

abbrev pub invariant-loop-place : goal.invariant-loop-place
invariant-loop-place l = (l.self-inside.size ≡ l.initial.self-inside.size) × (l.self-inside.groups.items ≡ l.initial.self-inside.groups.items)
