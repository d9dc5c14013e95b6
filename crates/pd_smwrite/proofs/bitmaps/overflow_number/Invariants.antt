use Rattle.std.proofs.Common.{◌≡◌, ◌+◌, ◌-◌, ◌<◌, ◌≤◌, length}
use Rattle.pd_laid.specs.Laid.{overflow_items}
use Rattle.pd_count.specs.Counted.{count_of}
use Rattle.pd_smwrite.proofs.OverflowLemmas.{items_from}
use Rattle.pd_smwrite.proofs.bitmaps.overflow_number.Given as goal

abbrev pub invariant-loop-high : goal.invariant-loop-high
invariant-loop-high l = record {
  number : l.number + length (items_from (count_of l.counts) l.high (l.counts.size - l.high)) ≡ length (overflow_items (count_of l.counts) l.counts.size);
  few : l.number ≤ l.high;
  is_size : l.size ≡ l.counts.size;
  within : l.high ≤ l.counts.size;
  high : l.high < l.counts.size → 3 ≤ count_of l.counts l.high;
}

abbrev pub decreases-loop-high : goal.decreases-loop-high
decreases-loop-high l = l.size - l.high
