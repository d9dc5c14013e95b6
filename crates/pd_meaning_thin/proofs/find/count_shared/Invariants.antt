use Rattle.std.proofs.Common.{◌≡◌, ◌≤◌, take}
use Rattle.std.specs.List.{count_by}
use Rattle.pd_meaning_thin.specs.Marks.{is_shared}
use Rattle.pd_meaning_thin.proofs.find.count_shared.Given as goal

abbrev pub invariant-loop-mark : goal.invariant-loop-mark
invariant-loop-mark l = record {
  counted : l.shared ≡ count_by is_shared (take l.mark-index l.marks);
  few : l.shared ≤ l.mark-index;
}
