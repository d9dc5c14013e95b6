use Rattle.std.proofs.Common.{◌≡◌, IfSome}
use Rattle.pd_image.specs.Device.{OnlyReads}
use Rattle.pd_graph.specs.Notes.{size_of}
use Rattle.pd_damaged.specs.Loose.{AreMarked, HaveNodes}
use Rattle.pd_damaged.proofs.marks.LooseNodes.look_at_all.Given as goal

-- the blocks before this one are marked
abbrev pub invariant-loop-b : goal.invariant-loop-b
invariant-loop-b g l = record {
  marks : IfSome (g.D.Device.state l.initial.dev).held (λ image. AreMarked l.kind l.notes image 1 l.initial.self → AreMarked l.kind l.notes image l.b l.self);
  places : HaveNodes (size_of l.notes) l.self;
  kept : OnlyReads (g.D.Device.state l.initial.dev) (g.D.Device.state l.dev);
  faults : (g.D.Device.state l.dev).faults ≡ (g.D.Device.state l.initial.dev).faults;
}
