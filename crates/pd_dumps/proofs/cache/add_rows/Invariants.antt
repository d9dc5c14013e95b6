use Rattle.std.proofs.Common.{◌≡◌, IfSome}
use Rattle.pd_image.specs.Device.{OnlyReads}
use Rattle.pd_lines.specs.Printer.{printing}
use Rattle.pd_meaning_cache.specs.Sides.{Knows, rows_ahead, rows_ahead_number}
use Rattle.pd_query.proofs.QueryLemmas.{PrintsSoFar}
use Rattle.pd_dumps.specs.CacheLines.{rows_text}
use Rattle.pd_dumps.proofs.cache.add_rows.Given as goal

abbrev pub invariant-loop-row : goal.invariant-loop-row
invariant-loop-row g l = record {
  same_reference : l.printer.out.ghost_name ≡ l.initial.printer.out.ghost_name;
  so_far : PrintsSoFar (g.D.Device.state l.initial.dev).held (λ image. rows_text (rows_ahead image l.initial.rows)) (λ image. rows_text (rows_ahead image l.rows))
      (printing g.K.Sink.state l.initial.printer) (printing g.K.Sink.state l.printer);
  knows : IfSome (g.D.Device.state l.initial.dev).held (λ image. Knows image l.rows);
  kept : OnlyReads (g.D.Device.state l.initial.dev) (g.D.Device.state l.dev);
  dev_faults : (g.D.Device.state l.dev).faults ≡ (g.D.Device.state l.initial.dev).faults;
  out_faults : (g.K.Sink.state l.printer.out.now).faults ≡ (g.K.Sink.state l.initial.printer.out.now).faults;
}

abbrev pub decreases-loop-row : goal.decreases-loop-row
decreases-loop-row g l = rows_ahead_number l.rows
