use Rattle.std.proofs.Common.{◌≡◌, IfSome}
use Rattle.pd_image.specs.Device.{OnlyReads}
use Rattle.pd_meaning_thin.specs.Runs.{rows_left, rows_number}
use Rattle.pd_uses.specs.ListWalk.{WalksRows}
use Rattle.pd_uses.proofs.list_walk.tally_rows.Given as goal

-- the rows that aren't left any more were tallied
abbrev pub invariant-loop-row : goal.invariant-loop-row
invariant-loop-row g l = record {
  walks : IfSome (g.D.Device.state l.initial.dev).held (λ image. WalksRows image (rows_left image l.initial.devices) (rows_left image l.devices) l.initial.meets l.meets l.initial.tallies l.tallies);
  kept : OnlyReads (g.D.Device.state l.initial.dev) (g.D.Device.state l.dev);
  faults : (g.D.Device.state l.dev).faults ≡ (g.D.Device.state l.initial.dev).faults;
}

abbrev pub decreases-loop-row : goal.decreases-loop-row
decreases-loop-row g l = rows_number l.devices
