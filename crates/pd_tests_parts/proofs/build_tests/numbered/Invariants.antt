use Rattle.std.proofs.Common.{◌^◌, nat_lt}
use Rattle.pd_value.specs.declared.thin.Root.{Root}
use Rattle.pd_build.specs.Tree.{AreInOrder}
use Rattle.pd_tests_parts.proofs.build_tests.numbered.Given as goal

abbrev pub invariant-loop-i : goal.invariant-loop-i
invariant-loop-i l = AreInOrder (λ (root : Root). nat_lt root.0 (2 ^ 64)) l.items.items l.i
