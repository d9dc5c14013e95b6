use Rattle.std.proofs.Common.{◌≡◌, IfSome, Some, take}
use Rattle.pd_draft.specs.Closed.{StaysClosed}
use Rattle.pd_writeback.specs.Copied.{marked}
use Rattle.pd_writeback.proofs.marking.mark_all.Given as goal

-- so many places were marked
abbrev pub invariant-loop-place : goal.invariant-loop-place
invariant-loop-place g l = record {
  same_reference : l.rewrite.dev.ghost_name ≡ l.initial.rewrite.dev.ghost_name;
  content : IfSome (g.A.Device.state l.initial.rewrite.dev.now).held (λ image. (g.A.Device.state l.rewrite.dev.now).held ≡ Some (marked l.version image (take l.place-index l.places)));
  stays : StaysClosed (g.A.Device.state l.initial.rewrite.dev.now) (g.A.Device.state l.rewrite.dev.now);
  faults : (g.A.Device.state l.rewrite.dev.now).faults ≡ (g.A.Device.state l.initial.rewrite.dev.now).faults;
}
