use Rattle.std.proofs.Common.{◌≡◌, ◌+◌, ◌≤◌, IfSome}
use Rattle.pd_image.specs.Device.{OnlyReads}
use Rattle.pd_graph.specs.Audit.{blocks_of}
use Rattle.pd_check.specs.Arrays.{places_of}
use Rattle.pd_check.specs.Arrays.{AreCounted, AreMarkedTo, HasArrays, KeepsBlocks}
use Rattle.pd_check.specs.Arrays.{is_under, number_where}
use Rattle.pd_check.proofs.array_rules.fill_marks.Given as goal

-- the nodes of lower heights were marked
abbrev pub invariant-loop-height : goal.invariant-loop-height
invariant-loop-height g l = record {
  marked : IfSome (g.D.Device.state l.initial.dev).held (λ image. HasArrays (g.F.Format.graph l.fn.format) image l.fn.audit l.roles
      → AreCounted (g.F.Format.graph l.fn.format) image l.roles l.initial.marks
      → AreMarkedTo (g.F.Format.graph l.fn.format) image l.fn.audit l.roles l.height 0 l.marks);
  blocks : KeepsBlocks l.fn.audit l.roles l.initial.marks l.marks;
  places : places_of l.marks ≡ places_of l.initial.marks;
  reads : (g.D.Device.state l.dev).reads ≤ (g.D.Device.state l.initial.dev).reads + number_where (is_under l.fn.audit l.roles.nodes l.height) (blocks_of l.fn.audit);
  kept : OnlyReads (g.D.Device.state l.initial.dev) (g.D.Device.state l.dev);
  faults : (g.D.Device.state l.dev).faults ≡ (g.D.Device.state l.initial.dev).faults;
}
