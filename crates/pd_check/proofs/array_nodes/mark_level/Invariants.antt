use Rattle.std.proofs.Common.{◌≡◌, ◌+◌, ◌≤◌, IfSome}
use Rattle.pd_image.specs.Device.{OnlyReads}
use Rattle.pd_check.specs.Arrays.{places_of}
use Rattle.pd_check.specs.Arrays.{AreMarkedTo, HasArrays, KeepsBlocks}
use Rattle.pd_check.specs.Arrays.{is_at, number_where}
use Rattle.pd_check.proofs.array_nodes.mark_level.Given as goal

-- the blocks before this one were looked at
abbrev pub invariant-loop-b : goal.invariant-loop-b
invariant-loop-b g l = record {
  marked : IfSome (g.D.Device.state l.initial.dev).held (λ image. HasArrays (g.F.Format.graph l.fn.format) image l.fn.audit l.roles
      → AreMarkedTo (g.F.Format.graph l.fn.format) image l.fn.audit l.roles l.height 0 l.initial.marks
      → AreMarkedTo (g.F.Format.graph l.fn.format) image l.fn.audit l.roles l.height l.b l.marks);
  blocks : KeepsBlocks l.fn.audit l.roles l.initial.marks l.marks;
  places : places_of l.marks ≡ places_of l.initial.marks;
  reads : (g.D.Device.state l.dev).reads ≤ (g.D.Device.state l.initial.dev).reads + number_where (is_at l.fn.audit l.roles.nodes l.height) l.b;
  kept : OnlyReads (g.D.Device.state l.initial.dev) (g.D.Device.state l.dev);
  faults : (g.D.Device.state l.dev).faults ≡ (g.D.Device.state l.initial.dev).faults;
}
