use Rattle.std.proofs.Common.{◌≡◌, take}
use Rattle.std.specs.List.{flat_map}
use Rattle.pd_salvage_shapes.specs.Note.{range_numbers}
use Rattle.pd_salvage_shapes.proofs.numbers.list_of.Given as goal

-- the numbers of the ranges before this one were added
abbrev pub invariant-loop-range : goal.invariant-loop-range
invariant-loop-range l = record {
  items : l.numbers.items ≡ flat_map range_numbers (take l.range-index l.done);
}
