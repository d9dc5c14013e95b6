use Rattle.std.proofs.Common.{◌≡◌}
use Rattle.pd_image.specs.Device.{OnlyReads}
use Rattle.pd_lines.specs.Printer.{printing}
use Rattle.pd_meaning_thin.specs.Runs.{rows_left, rows_number}
use Rattle.pd_query.proofs.QueryLemmas.{PrintsSoFar}
use Rattle.pd_uses.specs.Uses.{tallied_rows}
use Rattle.pd_uses.proofs.device_list.add_rows.Given as goal

abbrev pub invariant-loop-row : goal.invariant-loop-row
invariant-loop-row g l = record {
  same_reference : l.printer.out.ghost_name ≡ l.initial.printer.out.ghost_name;
  so_far : PrintsSoFar (g.D.Device.state l.initial.dev).held (λ image. tallied_rows l.initial.exclusive (rows_left image l.initial.devices)) (λ image. tallied_rows l.left (rows_left image l.devices))
      (printing g.K.Sink.state l.initial.printer) (printing g.K.Sink.state l.printer);
  kept : OnlyReads (g.D.Device.state l.initial.dev) (g.D.Device.state l.dev);
  dev_faults : (g.D.Device.state l.dev).faults ≡ (g.D.Device.state l.initial.dev).faults;
  out_faults : (g.K.Sink.state l.printer.out.now).faults ≡ (g.K.Sink.state l.initial.printer.out.now).faults;
}

abbrev pub decreases-loop-row : goal.decreases-loop-row
decreases-loop-row g l = rows_number l.devices
