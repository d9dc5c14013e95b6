use Rattle.pd_damaged.specs.Known.{IsHeightOf}
use Rattle.pd_damaged.proofs.table.KnownTable.height_of.Given as goal

-- the height by the children before this one
abbrev pub invariant-loop-i : goal.invariant-loop-i
invariant-loop-i l = IsHeightOf l.self l.block.0 l.i l.height
