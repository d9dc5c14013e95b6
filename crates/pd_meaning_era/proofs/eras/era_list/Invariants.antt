use Rattle.std.proofs.Common.{◌≡◌, ◌+◌, ◌++◌, IfSome, length}
use Rattle.pd_image.specs.Device.{OnlyReads}
use Rattle.pd_meaning_era.specs.Eras.{eras_below}
use Rattle.pd_meaning_era.specs.Parts.{blocks_left, eras_left}
use Rattle.pd_meaning_era.proofs.eras.era_list.Given as goal

-- the eras so far, and those that are left
abbrev pub invariant-loop-eras : goal.invariant-loop-eras
invariant-loop-eras g l = record {
  eras : IfSome (g.D.Device.state l.initial.dev).held (λ image. l.eras.items ++ eras_left image l.left ≡ eras_below image l.s);
  number : length l.eras.items + blocks_left l.left ≡ l.s.blocks;
  kept : OnlyReads (g.D.Device.state l.initial.dev) (g.D.Device.state l.dev);
  faults : (g.D.Device.state l.dev).faults ≡ (g.D.Device.state l.initial.dev).faults;
}

abbrev pub decreases-loop-eras : goal.decreases-loop-eras
decreases-loop-eras g l = blocks_left l.left
