use Rattle.std.proofs.Common.{◌≡◌, map}
use Rattle.std.specs.List.{range_with_len}
use Rattle.pd_kinds.specs.Node.{value_at}
use Rattle.pd_meaning_era.proofs.descent.arrays.Given as goal

abbrev pub invariant-loop-i : goal.invariant-loop-i
invariant-loop-i l = l.arrays.items ≡ map (value_at 8 l.block.0) (range_with_len 0 l.i)
