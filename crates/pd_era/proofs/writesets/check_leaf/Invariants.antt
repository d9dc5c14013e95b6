use Rattle.std.proofs.Common.{ℕ, List}
use Rattle.std.specs.List.{AllByRecursion}
use Rattle.pd_kinds.specs.EraFormat.{writeset_root}
use Rattle.pd_kinds.specs.Graph.{Graph}
use Rattle.pd_kinds.specs.Layout.{leaf_entries}
use Rattle.pd_kinds.specs.Node.{Entry}
use Rattle.pd_kinds.specs.Stages.{IsReached}
use Rattle.pd_graph.specs.Audit.{KeepsButRules}
use Rattle.pd_check.specs.Known.{Charges}
use Rattle.pd_check.specs.Arrays.{AreMarked, HasArrays}
use Rattle.pd_era.specs.Whole.{bits, first_sets, set_tests}
use Rattle.pd_era.proofs.writesets.check_leaf.Given as goal

-- the entries before this one were looked at
abbrev pub invariant-loop-i : goal.invariant-loop-i
invariant-loop-i l = record {
  charges : (graph : Graph) (image : List (List ℕ)) → HasArrays graph image l.initial.audit bits → AreMarked graph image bits l.fn.marks
      → AllByRecursion (λ (e : Entry). IsReached graph image (writeset_root e.value) 3) (leaf_entries 12 l.fn.block.0)
      → Charges (set_tests graph image (first_sets l.fn.block.0 l.i)) l.initial.audit l.audit;
  rules : KeepsButRules l.initial.audit l.audit;
}
