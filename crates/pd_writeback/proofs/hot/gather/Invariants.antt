use Rattle.std.proofs.Common.{◌≡◌, ◌++◌, IfSome}
use Rattle.pd_image.specs.Device.{OnlyReads}
use Rattle.pd_meaning_cache.specs.Sides.{Knows, rows_ahead, rows_ahead_number}
use Rattle.pd_writeback.specs.Plan.{cached_all, hot_rows}
use Rattle.pd_writeback.proofs.hot.gather.Given as goal

-- the hot ones so far, and those that are left
abbrev pub invariant-loop-row : goal.invariant-loop-row
invariant-loop-row g l = record {
  hot : IfSome (g.A.Device.state l.initial.meta).held (λ image. cached_all l.hot.items ++ hot_rows l.clean (rows_ahead image l.rows) ≡ hot_rows l.clean (rows_ahead image l.initial.rows));
  knows : IfSome (g.A.Device.state l.initial.meta).held (λ image. Knows image l.rows);
  kept : OnlyReads (g.A.Device.state l.initial.meta) (g.A.Device.state l.meta);
  faults : (g.A.Device.state l.meta).faults ≡ (g.A.Device.state l.initial.meta).faults;
}

abbrev pub decreases-loop-row : goal.decreases-loop-row
decreases-loop-row g l = rows_ahead_number l.rows
