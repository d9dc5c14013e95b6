use Rattle.std.proofs.Common.{◌≡◌, ◌+◌, ◌≤◌, IfSome}
use Rattle.pd_kinds.specs.Graph.{Graph}
use Rattle.pd_image.specs.Device.{OnlyReads}
use Rattle.pd_graph.specs.Audit.{KeepsButRules}
use Rattle.pd_check.specs.Refs.{number_in}
use Rattle.pd_tree.specs.Search.{HasEraTrees}
use Rattle.pd_check.specs.Known.{Charges}
use Rattle.pd_check.specs.Arrays.{AreMarked, HasArrays}
use Rattle.pd_era.specs.Whole.{bits, set_tests, sets_before}
use Rattle.pd_era.proofs.writesets.mark_writesets.Given as goal

-- the blocks before this one were looked at
abbrev pub invariant-loop-b : goal.invariant-loop-b
invariant-loop-b g l = record {
  charges : IfSome (g.D.Device.state l.initial.dev).held (λ image. (graph : Graph) → HasArrays graph image l.initial.audit bits → HasEraTrees graph
      → AreMarked graph image bits l.fn.marks → Charges (set_tests graph image (sets_before graph image l.b)) l.initial.audit l.audit);
  reads : (g.D.Device.state l.dev).reads ≤ (g.D.Device.state l.initial.dev).reads + number_in l.initial.audit 2 l.b;
  rules : KeepsButRules l.initial.audit l.audit;
  kept : OnlyReads (g.D.Device.state l.initial.dev) (g.D.Device.state l.dev);
  faults : (g.D.Device.state l.dev).faults ≡ (g.D.Device.state l.initial.dev).faults;
}
