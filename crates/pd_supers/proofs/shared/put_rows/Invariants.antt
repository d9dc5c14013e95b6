use Rattle.std.proofs.Common.{◌≡◌, true, map, drop}
use Rattle.pd_kinds.specs.Field.{DoFit, written}
use Rattle.pd_supers.specs.Table.{are_inside, row_of}
use Rattle.pd_supers.proofs.shared.put_rows.Given as goal

-- the rows that are left make the whole of it, and lie within the block
abbrev pub invariant-loop-i : goal.invariant-loop-i
invariant-loop-i l =
    (written l.block.0 (map row_of (drop l.i l.rows)) ≡ written l.initial.block.0 (map row_of l.rows))
    × (DoFit (map row_of (drop l.i l.rows)) → DoFit (map row_of l.rows))
    × (are_inside (map row_of (drop l.i l.rows)) ≡ true)
