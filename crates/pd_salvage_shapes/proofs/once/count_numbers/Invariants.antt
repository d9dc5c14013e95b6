use Rattle.std.proofs.Common.{◌≡◌, ℕ, List, ◌++◌, length, take}
use Rattle.pd_salvage_shapes.specs.SeenShape.{AreUses}
use Rattle.pd_salvage_shapes.proofs.once.count_numbers.Given as goal

-- the numbers before this one were counted
abbrev pub invariant-loop-k : goal.invariant-loop-k
invariant-loop-k l = record {
  counted : (before : List ℕ) → AreUses before l.initial.times → AreUses (before ++ take l.k-index l.met) l.times;
  same : length l.times ≡ length l.initial.times;
}
