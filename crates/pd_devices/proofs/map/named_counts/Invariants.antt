use Rattle.std.proofs.Common.{◌≡◌, ◌<◌, ◌≤◌, ℕ}
use Rattle.pd_count.specs.Counted.{count_of}
use Rattle.pd_laws_laid.specs.Shared.{named_times}
use Rattle.pd_devices.proofs.map.named_counts.Given as goal

abbrev pub invariant-loop-b : goal.invariant-loop-b
invariant-loop-b l = record {
  size : l.counts.size ≡ l.size;
  below : (c : ℕ) → c < l.b → count_of l.counts c ≡ named_times (count_of l.uses) l.leaves l.end c;
  past : (c : ℕ) → l.b ≤ c → count_of l.counts c ≡ 0;
}
