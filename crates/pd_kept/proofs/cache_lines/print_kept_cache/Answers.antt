use Rattle.std.specs.List.{flat_map}
use Rattle.pd_lines.specs.Printer.{printing}
use Rattle.pd_lines.proofs.Printing.{begun_first, begun_with, prints_then}
use Rattle.pd_kept.specs.KeptCache.{told_line, told_root}
use Rattle.pd_kept.proofs.cache_lines.print_kept_cache.Goals as goal

pub returns-in_err-print-clause-prints : goal.returns-in_err-print-clause-prints
returns-in_err-print-clause-prints g c =
    begun_with c.from_residual.result c.from_residual.ensures.0
    (begun_first (flat_map told_root c.args.told.now.roots.items) (rw (c.as_bytes.ensures.bytes, c.kept_cache_line-line.ensures) at c.in_err-print.ensures.prints))

pub returns-clause-prints : goal.returns-clause-prints
returns-clause-prints g c =
    prints_then (told_line c.args.told.now.kept) (flat_map told_root c.args.told.now.roots.items) (printing g.K.Sink.state c.print_roots.new.printer) c.print_roots.result
    (rw (c.as_bytes.ensures.bytes, c.kept_cache_line-line.ensures) at c.in_ok-print.ensures.prints) (rw c.as_slice.ensures.value at c.print_roots.ensures.prints)
