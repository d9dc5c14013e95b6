use Rattle.std.proofs.Common.{◌≡◌, ◌≢◌, ℕ}
use Rattle.pd_count.specs.Counted.{count_of}
use Rattle.pd_devices.proofs.map.add_times.Given as goal

abbrev pub invariant-loop : goal.invariant-loop
invariant-loop l = record {
  size : l.counts.size ≡ l.initial.counts.size;
  counted : count_of l.counts l.b ≡ l.counter;
  others : (c : ℕ) → c ≢ l.b → count_of l.counts c ≡ count_of l.initial.counts c;
}
