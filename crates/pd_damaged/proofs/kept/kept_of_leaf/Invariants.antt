use Rattle.std.proofs.Common.{◌≡◌, fold}
use Rattle.pd_damaged.specs.Kept.{counted, leaf_items, no_kept}
use Rattle.pd_damaged.proofs.kept.kept_of_leaf.Given as goal

-- the entries before this one were counted
abbrev pub invariant-loop-i : goal.invariant-loop-i
invariant-loop-i l = l.sum ≡ fold (counted l.data_blocks) no_kept (leaf_items l.block.0 l.i)
