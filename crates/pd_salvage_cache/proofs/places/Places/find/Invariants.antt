use Rattle.std.proofs.Common.{◌≡◌, IfSome}
use Rattle.pd_image.specs.Device.{OnlyReads}
use Rattle.pd_salvage.specs.Cursor.{saved_number}
use Rattle.pd_salvage.specs.Details.{FindsSame}
use Rattle.pd_salvage_cache.specs.Places.{places_left, places_room}
use Rattle.pd_salvage_cache.proofs.places.Places.find.Given as goal

-- from the key on the same is found as at the start
abbrev pub invariant-loop-root : goal.invariant-loop-root
invariant-loop-root g l = record {
  left : IfSome (g.D.Device.state l.initial.dev).held (λ image. FindsSame l.key (places_left image l.initial.self) (places_left image l.self));
  room : places_room l.self ≡ places_room l.initial.self;
  kept : OnlyReads (g.D.Device.state l.initial.dev) (g.D.Device.state l.dev);
  faults : (g.D.Device.state l.dev).faults ≡ (g.D.Device.state l.initial.dev).faults;
}

abbrev pub decreases-loop-root : goal.decreases-loop-root
decreases-loop-root g l = saved_number 8 l.self.entries
