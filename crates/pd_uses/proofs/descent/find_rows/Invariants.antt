use Rattle.std.proofs.Common.{◌≡◌, IfSome}
use Rattle.pd_image.specs.Device.{OnlyReads}
use Rattle.pd_meaning_thin.specs.Runs.{rows_left, rows_number}
use Rattle.pd_uses.specs.FoundUses.{IsRight}
use Rattle.pd_uses.proofs.FoundLemmas.{RowsSoFar}
use Rattle.pd_uses.proofs.descent.find_rows.Given as goal

abbrev pub invariant-loop-row : goal.invariant-loop-row
invariant-loop-row g l = record {
  finds : IfSome (g.D.Device.state l.initial.dev).held (λ image. IsRight l.region image l.initial.found → RowsSoFar l.region image (rows_left image l.initial.devices) (rows_left image l.devices) l.initial.found l.found);
  kept : OnlyReads (g.D.Device.state l.initial.dev) (g.D.Device.state l.dev);
  faults : (g.D.Device.state l.dev).faults ≡ (g.D.Device.state l.initial.dev).faults;
}

abbrev pub decreases-loop-row : goal.decreases-loop-row
decreases-loop-row g l = rows_number l.devices
