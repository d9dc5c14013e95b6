use Rattle.std.proofs.Common.{◌≡◌}
use Rattle.pd_count.proofs.group.Group.settle.Given as goal

abbrev pub invariant-loop-place : goal.invariant-loop-place
invariant-loop-place l = (l.self-inside.made ≡ l.initial.self-inside.made) × (l.self-inside.chunks.items ≡ l.initial.self-inside.chunks.items)
