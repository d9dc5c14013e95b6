use Rattle.std.proofs.Common.{◌≡◌, ℕ, ◌+◌, ◌≤◌, Option, IfSome}
use Rattle.pd_image.specs.Device.{OnlyReads}
use Rattle.pd_smap.specs.Steps.{IsAhead}
use Rattle.pd_smap.specs.Overflow.{overflow_items, overflow_number, overflow_reads}
use Rattle.pd_smap.proofs.overflow.Overflow.count.Given as goal

-- what was ahead of the block still is
abbrev pub invariant-loop-self : goal.invariant-loop-self
invariant-loop-self g l = record {
  ahead : IfSome (g.D.Device.state l.initial.dev).held (λ image. (over : ℕ → Option ℕ) → IsAhead l.b over (overflow_items l.initial.self image) → IsAhead l.b over (overflow_items l.self image));
  reads : IfSome (g.D.Device.state l.initial.dev).held (λ image. (g.D.Device.state l.dev).reads + overflow_reads l.self image ≤ (g.D.Device.state l.initial.dev).reads + overflow_reads l.initial.self image);
  kept : OnlyReads (g.D.Device.state l.initial.dev) (g.D.Device.state l.dev);
  faults : (g.D.Device.state l.dev).faults ≡ (g.D.Device.state l.initial.dev).faults;
}

abbrev pub decreases-loop-self : goal.decreases-loop-self
decreases-loop-self g l = overflow_number l.self
