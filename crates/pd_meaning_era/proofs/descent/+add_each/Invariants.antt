use Rattle.std.proofs.Common.{◌≡◌, IfSome, take}
use Rattle.pd_image.specs.Device.{OnlyReads}
use Rattle.pd_meaning_era.specs.Notes.{Goes}
use Rattle.pd_meaning_era.specs.Notes.{words_at_each}
use Rattle.pd_meaning_era.specs.Notes.{Knows}
use Rattle.pd_meaning_era.proofs.descent.+add_each.Given as goal

abbrev pub decreases-add_each : goal.decreases-add_each
decreases-add_each g l = l.level

-- the blocks before this one were passed
abbrev pub invariant-loop-b : goal.invariant-loop-b
invariant-loop-b g l = record {
  goes : IfSome (g.D.Device.state l.initial.dev).held (λ image. Knows image l.initial.walk → Goes image l.end l.at (words_at_each image l.level (take l.b-index l.blocks)) l.next l.initial.walk l.walk);
  kept : OnlyReads (g.D.Device.state l.initial.dev) (g.D.Device.state l.dev);
  faults : (g.D.Device.state l.dev).faults ≡ (g.D.Device.state l.initial.dev).faults;
}
