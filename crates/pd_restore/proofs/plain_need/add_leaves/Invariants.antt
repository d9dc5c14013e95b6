use Rattle.std.proofs.Common.{◌≡◌, ◌++◌, ℕ, List, drop}
use Rattle.std.specs.List.{AllByRecursion}
use Rattle.pd_count.specs.Counted.{count_of}
use Rattle.pd_meaning_thin.specs.Packed.{runs_from}
use Rattle.pd_restore.specs.ShapeNeed.{HasCountedThrice}
use Rattle.pd_restore.specs.ShapeNeed.{leaves_used}
use Rattle.pd_restore.proofs.SavedNeedLemmas.{CountsFirst, IsWithin}
use Rattle.pd_restore.proofs.plain_need.add_leaves.Given as goal

abbrev pub invariant-loop-i : goal.invariant-loop-i
invariant-loop-i l = record {
  size : l.counted.size ≡ l.initial.counted.size;
  within : AllByRecursion (IsWithin l.initial.counted.size) (runs_from l.runs l.place);
  listed : (before : List ℕ) → HasCountedThrice l.initial.counted before
      → CountsFirst l.counted (before ++ leaves_used (count_of l.uses) 0 l.leaves l.runs) (leaves_used (count_of l.uses) l.i (drop l.i l.leaves) (runs_from l.runs l.place));
}
