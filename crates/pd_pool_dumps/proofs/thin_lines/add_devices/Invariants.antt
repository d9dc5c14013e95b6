use Rattle.std.proofs.Common.{◌≡◌, IfSome}
use Rattle.pd_image.specs.Device.{OnlyReads}
use Rattle.pd_lines.specs.Printer.{printing}
use Rattle.pd_meaning_thin.specs.Runs.{rows_left, rows_number}
use Rattle.pd_pool_dumps.specs.LeafText.{kept_texts}
use Rattle.pd_pool_dumps.specs.LeafText.{AreKept}
use Rattle.pd_pool_dumps.specs.ThinText.{rows_text}
use Rattle.std.specs.List.{flat_map}
use Rattle.pd_meaning_thin.specs.Given.{row_lines}
use Rattle.pd_query.proofs.QueryLemmas.{PrintsSoFar}
use Rattle.pd_pool_dumps.proofs.RunLemmas.{CountsSoFar}
use Rattle.pd_pool_dumps.proofs.thin_lines.add_devices.Given as goal

abbrev pub invariant-loop-row : goal.invariant-loop-row
invariant-loop-row g l = record {
  same_reference : l.printer.out.ghost_name ≡ l.initial.printer.out.ghost_name;
  so_far : PrintsSoFar (g.D.Device.state l.initial.dev).held (λ image. rows_text image (rows_left image l.initial.devices)) (λ image. rows_text image (rows_left image l.devices))
      (printing g.K.Sink.state l.initial.printer) (printing g.K.Sink.state l.printer);
  counted : CountsSoFar (g.D.Device.state l.initial.dev).held (λ image. flat_map (row_lines image) (rows_left image l.initial.devices)) (λ image. flat_map (row_lines image) (rows_left image l.devices)) l.initial.counts l.counts;
  texts : IfSome (g.D.Device.state l.initial.dev).held (λ image. AreKept image (kept_texts l.walk));
  kept : OnlyReads (g.D.Device.state l.initial.dev) (g.D.Device.state l.dev);
  dev_faults : (g.D.Device.state l.dev).faults ≡ (g.D.Device.state l.initial.dev).faults;
  out_faults : (g.K.Sink.state l.printer.out.now).faults ≡ (g.K.Sink.state l.initial.printer.out.now).faults;
}

abbrev pub decreases-loop-row : goal.decreases-loop-row
decreases-loop-row g l = rows_number l.devices
