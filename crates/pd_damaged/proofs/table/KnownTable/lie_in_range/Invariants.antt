use Rattle.pd_damaged.specs.Known.{LieInRange}
use Rattle.pd_damaged.proofs.table.KnownTable.lie_in_range.Given as goal

-- those below the children before this one do
abbrev pub invariant-loop-i : goal.invariant-loop-i
invariant-loop-i l = LieInRange l.self l.block.0 l.i
