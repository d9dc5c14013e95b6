use Rattle.std.proofs.Common.{◌≡◌, ◌++◌, ℕ, List, drop, take}
use Rattle.std.specs.List.{AllByRecursion}
use Rattle.pd_meaning_thin.specs.Packed.{runs_from}
use Rattle.pd_restore.specs.ShapeNeed.{HasCountedThrice}
use Rattle.pd_restore.specs.ShapeNeed.{runs_used}
use Rattle.pd_restore.specs.SavedLines.{behind_runs, in_runs}
use Rattle.pd_restore.proofs.SavedNeedLemmas.{CountsFirst, IsWithin}
use Rattle.pd_restore.proofs.plain_need.add_leaf.Given as goal

abbrev pub invariant-loop-run : goal.invariant-loop-run
invariant-loop-run l = record {
  size : l.counted.size ≡ l.initial.counted.size;
  within : AllByRecursion (IsWithin l.initial.counted.size) (in_runs l.row l.runs);
  listed : (before : List ℕ) → HasCountedThrice l.initial.counted before
      → CountsFirst l.counted (before ++ runs_used l.times (take l.number (runs_from l.runs l.initial.place))) (runs_used l.times (in_runs l.row l.runs));
  stays : behind_runs l.row l.runs ≡ drop l.number (runs_from l.runs l.initial.place);
}

abbrev pub decreases-loop-run : goal.decreases-loop-run
decreases-loop-run l = l.row.left
