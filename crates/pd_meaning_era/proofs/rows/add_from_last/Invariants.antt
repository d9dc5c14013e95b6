use Rattle.std.proofs.Common.{◌≡◌, IfSome, vec_len}
use Rattle.pd_image.specs.Device.{OnlyReads}
use Rattle.pd_meaning_era.specs.Notes.{Knows}
use Rattle.pd_meaning_era.proofs.SetLemmas.{WillHave}
use Rattle.pd_meaning_era.proofs.rows.add_from_last.Given as goal

-- the writesets that are left will have raised all eras
abbrev pub invariant-loop-key : goal.invariant-loop-key
invariant-loop-key g l = record {
  told : IfSome (g.D.Device.state l.initial.dev).held (λ image. Knows image l.initial.walk
      → WillHave image l.blocks l.initial.sets.items l.initial.walk.rows.items l.sets.items l.walk.rows.items × Knows image l.walk);
  kept : OnlyReads (g.D.Device.state l.initial.dev) (g.D.Device.state l.dev);
  faults : (g.D.Device.state l.dev).faults ≡ (g.D.Device.state l.initial.dev).faults;
}

abbrev pub decreases-loop-key : goal.decreases-loop-key
decreases-loop-key g l = vec_len l.sets
