use Rattle.std.proofs.Common.{◌≡◌, IfSome, take}
use Rattle.pd_image.specs.Device.{OnlyReads}
use Rattle.pd_uses.specs.FoundUses.{Finds, IsRight}
use Rattle.pd_uses.specs.Hits.{hits_each}
use Rattle.pd_uses.proofs.descent.+find_each.Given as goal

abbrev pub decreases-find_each : goal.decreases-find_each
decreases-find_each g l = l.edges

abbrev pub invariant-loop-b : goal.invariant-loop-b
invariant-loop-b g l = record {
  finds : IfSome (g.D.Device.state l.initial.dev).held (λ image. IsRight l.wanted.region image l.initial.found
      → Finds l.wanted.region image l.wanted.id (hits_each l.wanted.region image l.edges (take l.b-index l.blocks)) l.some l.initial.found l.found);
  kept : OnlyReads (g.D.Device.state l.initial.dev) (g.D.Device.state l.dev);
  faults : (g.D.Device.state l.dev).faults ≡ (g.D.Device.state l.initial.dev).faults;
}
