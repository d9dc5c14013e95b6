use Rattle.std.proofs.Common.{◌-◌, ◌<◌, ◌≤◌, length}
use Rattle.pd_meaning_thin.specs.Marks.{shared_before}
use Rattle.pd_meaning_thin.proofs.find.place_of.Given as goal

abbrev pub invariant-loop-high : goal.invariant-loop-high
invariant-loop-high l = record {
  order : l.low < l.high;
  within : l.high ≤ length l.marks;
  from : shared_before l.marks l.low ≤ l.number;
  before : l.number < shared_before l.marks l.high;
}

abbrev pub decreases-loop-high : goal.decreases-loop-high
decreases-loop-high l = l.high - l.low
