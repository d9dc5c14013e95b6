use Rattle.std.proofs.Common.{◌≡◌, ◌++◌, ℕ, List}
use Rattle.std.specs.List.{range_with_len}
use Rattle.pd_restore.specs.ShapeNeed.{HasCountedThrice}
use Rattle.pd_restore.proofs.saved_need.Thrice.add_run.Given as goal

abbrev pub invariant-loop-i : goal.invariant-loop-i
invariant-loop-i l = record {
  size : l.self.size ≡ l.initial.self.size;
  listed : (before : List ℕ) → HasCountedThrice l.initial.self before → HasCountedThrice l.self (before ++ range_with_len l.first l.i);
}
