use Rattle.std.proofs.Common.{◌≡◌}
use Rattle.pd_damaged.specs.Known.{joined_kept}
use Rattle.pd_damaged.proofs.table.KnownTable.joined.Given as goal

-- the children before this one
abbrev pub invariant-loop-i : goal.invariant-loop-i
invariant-loop-i l = l.sum ≡ joined_kept l.self l.block.0 l.i
