use Rattle.std.proofs.Common.{◌≡◌, ◌+◌, ◌%◌, ◌^◌, ◌++◌, map}
use Rattle.std.specs.List.{range_with_len}
use Rattle.pd_salvage_shapes.proofs.numbers.add_range.Given as goal

-- the numbers of the range before this one were added
abbrev pub invariant-loop-i : goal.invariant-loop-i
invariant-loop-i l = record {
  items : l.numbers.items ≡ l.initial.numbers.items ++ map (λ i. (l.range.first + i) % 2 ^ 32) (range_with_len 0 l.i);
}
