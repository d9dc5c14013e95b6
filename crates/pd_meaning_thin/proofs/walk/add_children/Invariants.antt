use Rattle.std.proofs.Common.{◌≡◌, ◌++◌, map}
use Rattle.std.specs.List.{range_with_len}
use Rattle.pd_kinds.specs.Node.{child_at}
use Rattle.pd_meaning_thin.proofs.walk.add_children.Given as goal

-- the children that were taken wait
abbrev pub invariant-loop-i : goal.invariant-loop-i
invariant-loop-i l = l.waiting.items ≡ l.initial.waiting.items ++ map (child_at l.block.0) (range_with_len 0 l.i)
