-- The rows of a table, as the code has them.
use Rattle.std.specs.Prelude.{ℕ, ◌+◌, Bool, true, ◌&&◌, nat_le, List, [], ◌∷◌}
use Rattle.pd_kinds.specs.Field.{Row}
use Rattle.pd_supers.specs.declared.shared.Number.{Number}
use Rattle.pd_supers.specs.declared.shared.Number.TheVariants.{Four, Eight}

-- the size of a number in bytes, and the number
abbrev pub size_of : Number → ℕ
size_of (Four value) = 4
size_of (Eight value) = 8

abbrev pub value_of : Number → ℕ
value_of (Four value) = value
value_of (Eight value) = value

-- a number at its offset
abbrev pub row_of : (ℕ × Number) → Row
row_of item = record { offset = item.0; size = size_of item.1; value = value_of item.1 }

-- whether each field of a table lies within a block
abbrev pub are_inside : List Row → Bool
are_inside [] = true
are_inside (row ∷ rows) = nat_le (row.offset + row.size) 4096 && are_inside rows
