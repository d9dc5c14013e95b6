use Rattle.std.proofs.Common.{◌≡◌}
use Rattle.std.specs.List.{flat_map}
use Rattle.pd_grammar.specs.Texts.{text_of_lines}
use Rattle.pd_image.specs.Device.{OnlyReads}
use Rattle.pd_lines.specs.Printer.{printing}
use Rattle.pd_grammar.specs.ThinText.{thin}
use Rattle.pd_meaning_thin.specs.Runs.{rows_left, rows_number}
use Rattle.pd_meaning_thin.specs.Walk.{shared_blocks}
use Rattle.pd_pool_dumps.specs.SharedLines.{sharing_lines}
use Rattle.pd_query.proofs.QueryLemmas.{PrintsSoFar}
use Rattle.pd_pool_dumps.proofs.shared_lines.add_sharing_devices.Given as goal

abbrev pub invariant-loop-row : goal.invariant-loop-row
invariant-loop-row g l = record {
  same_reference : l.printer.out.ghost_name ≡ l.initial.printer.out.ghost_name;
  so_far : PrintsSoFar (g.D.Device.state l.initial.dev).held (λ image. text_of_lines thin (flat_map (sharing_lines (shared_blocks l.initial.shared) image) (rows_left image l.initial.devices)))
      (λ image. text_of_lines thin (flat_map (sharing_lines (shared_blocks l.initial.shared) image) (rows_left image l.devices)))
      (printing g.K.Sink.state l.initial.printer) (printing g.K.Sink.state l.printer);
  kept : OnlyReads (g.D.Device.state l.initial.dev) (g.D.Device.state l.dev);
  dev_faults : (g.D.Device.state l.dev).faults ≡ (g.D.Device.state l.initial.dev).faults;
  out_faults : (g.K.Sink.state l.printer.out.now).faults ≡ (g.K.Sink.state l.initial.printer.out.now).faults;
}

abbrev pub decreases-loop-row : goal.decreases-loop-row
decreases-loop-row g l = rows_number l.devices
