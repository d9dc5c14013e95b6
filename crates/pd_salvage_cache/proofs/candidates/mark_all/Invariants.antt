use Rattle.std.proofs.Common.{◌≡◌, length, IfSome}
use Rattle.pd_image.specs.Device.{OnlyReads}
use Rattle.pd_salvage_cache.specs.Fuller.{AreMarked}
use Rattle.pd_salvage_cache.proofs.candidates.mark_all.Given as goal

-- the children of the blocks before this one are marked
abbrev pub invariant-loop-place : goal.invariant-loop-place
invariant-loop-place g l = record {
  marked : IfSome (g.D.Device.state l.initial.dev).held (λ image. AreMarked image l.words l.place l.marks);
  number : length l.marks ≡ length l.initial.marks;
  kept : OnlyReads (g.D.Device.state l.initial.dev) (g.D.Device.state l.dev);
  faults : (g.D.Device.state l.dev).faults ≡ (g.D.Device.state l.initial.dev).faults;
}
