use Rattle.std.proofs.Common.{◌≡◌, ℕ, ◌+◌, ◌*◌, ◌<◌, length}
use Rattle.std.specs.List.{slice_index_or}
use Rattle.pd_meaning_thin.specs.Marks.{shared_before}
use Rattle.pd_meaning_thin.proofs.find.rank_groups.Given as goal

abbrev pub invariant-loop-group : goal.invariant-loop-group
invariant-loop-group l = record {
  number : length l.ranks.items ≡ l.group + 1;
  each : (group : ℕ) → group < length l.ranks.items → slice_index_or l.ranks.items group 0 ≡ shared_before l.marks (64 * group);
  shared : l.shared ≡ shared_before l.marks (64 * l.group);
}
