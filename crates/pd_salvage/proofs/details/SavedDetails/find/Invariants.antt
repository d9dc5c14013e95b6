use Rattle.std.proofs.Common.{◌≡◌, IfSome}
use Rattle.pd_image.specs.Device.{OnlyReads}
use Rattle.pd_salvage.specs.Cursor.{saved_number}
use Rattle.pd_salvage.specs.Details.{FindsSame, details_left, details_room}
use Rattle.pd_salvage.proofs.details.SavedDetails.find.Given as goal

-- from the id on the same is found as at the start
abbrev pub invariant-loop-details : goal.invariant-loop-details
invariant-loop-details g l = record {
  left : IfSome (g.D.Device.state l.initial.dev).held (λ image. FindsSame l.id (details_left image l.initial.self) (details_left image l.self));
  room : details_room l.self ≡ details_room l.initial.self;
  kept : OnlyReads (g.D.Device.state l.initial.dev) (g.D.Device.state l.dev);
  faults : (g.D.Device.state l.dev).faults ≡ (g.D.Device.state l.initial.dev).faults;
}

abbrev pub decreases-loop-details : goal.decreases-loop-details
decreases-loop-details g l = saved_number 24 l.self.entries
