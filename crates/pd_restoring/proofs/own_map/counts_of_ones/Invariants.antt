use Rattle.std.proofs.Common.{◌≡◌, ℕ}
use Rattle.pd_count.specs.Counted.{count_of}
use Rattle.pd_laws_laid.specs.Once.{ones_below}
use Rattle.pd_restoring.proofs.own_map.counts_of_ones.Given as goal

abbrev pub invariant-loop-b : goal.invariant-loop-b
invariant-loop-b l = record {
  size : l.counts.size ≡ l.size;
  ones : (b : ℕ) → count_of l.counts b ≡ ones_below l.b b;
}
