use Rattle.std.proofs.Common.{◌≡◌, ◌≤◌, eqb}
use Rattle.std.specs.List.{count_by, range_with_len}
use Rattle.pd_count.specs.Counted.{count_of}
use Rattle.pd_devices.proofs.shared_devices.thirds_in.Given as goal

abbrev pub invariant-loop-i : goal.invariant-loop-i
invariant-loop-i l = record {
  thirds : l.thirds ≡ count_by (λ d. eqb (count_of l.fn.counts d) 2) (range_with_len l.fn.first l.i);
  most : l.thirds ≤ l.i;
}
