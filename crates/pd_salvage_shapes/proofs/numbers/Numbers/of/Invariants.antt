use Rattle.std.proofs.Common.{◌≡◌, take}
use Rattle.pd_salvage_shapes.proofs.numbers.Numbers.of.Given as goal

-- the numbers before this one were added
abbrev pub invariant-loop-number : goal.invariant-loop-number
invariant-loop-number l = record {
  packed : l.packed ≡ take l.number-index l.numbers;
}
