use Rattle.std.proofs.Common.{◌≡◌, ◌++◌, ℕ, List, length}
use Rattle.std.specs.List.{AllByRecursion}
use Rattle.pd_meaning_thin.specs.Packed.{runs_from}
use Rattle.pd_restore.specs.ShapeNeed.{HasCountedThrice, data_of_runs}
use Rattle.pd_restore.proofs.SavedNeedLemmas.{CountsFirst, IsWithin}
use Rattle.pd_restore.proofs.saved_need.Thrice.add_runs.Given as goal

abbrev pub invariant-loop-run : goal.invariant-loop-run
invariant-loop-run l = record {
  size : l.self.size ≡ l.initial.self.size;
  within : AllByRecursion (IsWithin l.initial.self.size) (runs_from l.runs l.place);
  listed : (before : List ℕ) → HasCountedThrice l.initial.self before → CountsFirst l.self (before ++ data_of_runs l.runs) (data_of_runs (runs_from l.runs l.place));
}

abbrev pub decreases-loop-run : goal.decreases-loop-run
decreases-loop-run l = length (runs_from l.runs l.place)
