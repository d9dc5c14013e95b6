use Rattle.std.proofs.Common.{◌≡◌, ◌≤◌, IfSome}
use Rattle.pd_image.specs.Device.{OnlyReads}
use Rattle.pd_salvage.specs.Range.{ascending_from}
use Rattle.pd_salvage.specs.Way.{KnowsUndamaged}
use Rattle.pd_salvage.specs.Way.{saved_on, way_number}
use Rattle.pd_salvage.proofs.cursor.next_entry.Given as goal

-- from the least key on the same is left as at the start
abbrev pub invariant-loop-way : goal.invariant-loop-way
invariant-loop-way g l = record {
  left : IfSome (g.D.Device.state l.initial.dev).held (λ image. ascending_from l.least (saved_on g.V.Value.SIZE g.V.Value.decoded l.nr image l.initial.way) ≡ ascending_from l.least (saved_on g.V.Value.SIZE g.V.Value.decoded l.nr image l.way));
  number : way_number g.V.Value.SIZE l.way ≤ way_number g.V.Value.SIZE l.initial.way;
  knows : IfSome (g.D.Device.state l.initial.dev).held (λ image. KnowsUndamaged g.V.Value.SIZE image l.way);
  kept : OnlyReads (g.D.Device.state l.initial.dev) (g.D.Device.state l.dev);
  faults : (g.D.Device.state l.dev).faults ≡ (g.D.Device.state l.initial.dev).faults;
}

abbrev pub decreases-loop-way : goal.decreases-loop-way
decreases-loop-way g l = way_number g.V.Value.SIZE l.way
