use Rattle.std.proofs.Common.{◌≡◌, ◌+◌, ◌++◌, ℕ, List}
use Rattle.std.specs.List.{range_with_len}
use Rattle.pd_count.specs.Counted.{HasCounted}
use Rattle.pd_devices.proofs.counts.BlockCounts.add_run.Given as goal

abbrev pub invariant-loop-i : goal.invariant-loop-i
invariant-loop-i l = record {
  size : l.self.counts.size ≡ l.initial.self.counts.size;
  total : l.self.total ≡ l.initial.self.total + l.i;
  listed : (before : List ℕ) → HasCounted l.initial.self.counts before → HasCounted l.self.counts (range_with_len l.first l.i ++ before);
}
