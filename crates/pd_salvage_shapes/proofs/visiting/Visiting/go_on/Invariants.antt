use Rattle.std.proofs.Common.{◌≡◌, List, IfSome}
use Rattle.pd_image.specs.Device.{OnlyReads}
use Rattle.pd_salvage.specs.Way.{way_number}
use Rattle.pd_salvage_shapes.specs.Note.{Met}
use Rattle.pd_salvage_shapes.specs.Visiting.{Grow, IsReady, KnowsInner, MeetsAll}
use Rattle.pd_salvage_shapes.proofs.visiting.Visiting.go_on.Given as goal

-- what was met and what is left are what was so at the start
abbrev pub invariant-steps : goal.invariant-steps
invariant-steps g l = record {
  ready : IsReady l.self;
  same : l.self.s ≡ l.initial.self.s;
  grow : Grow l.initial.self.notes.items l.self.notes.items;
  told : IfSome (g.D.Device.state l.initial.dev).held (λ image. (all : List Met) → MeetsAll image all l.initial.self → MeetsAll image all l.self);
  knows : KnowsInner (g.D.Device.state l.initial.dev).held l.self.way;
  kept : OnlyReads (g.D.Device.state l.initial.dev) (g.D.Device.state l.dev);
  faults : (g.D.Device.state l.dev).faults ≡ (g.D.Device.state l.initial.dev).faults;
}

abbrev pub decreases-steps : goal.decreases-steps
decreases-steps g l = way_number 8 l.self.way
