use Rattle.std.proofs.Common.{refl, ◌∙◌}
use Rattle.pd_lines.specs.Printer.{printing}
use Rattle.pd_lines.proofs.Printing.{begun_with, printed_none}
use Rattle.pd_kept.specs.KeptCache.{told_root}
use Rattle.pd_kept.proofs.StatesLemmas.{all_printed, line_begun, line_printed}
use Rattle.pd_kept.proofs.cache_lines.print_roots.Goals as goal

pub loop-root-init : goal.loop-root-init
loop-root-init g c = record { same_reference = refl; printed = printed_none (printing g.K.Sink.state c.args.printer.now); faults = refl }

pub loop-root-preserved : goal.loop-root-preserved
loop-root-preserved g c =
    let inv = c.loop-root.invariant in
    record {
      same_reference = c.in_ok-print.ensures.same_reference ∙ inv.same_reference;
      printed = line_printed told_root c.args.roots.now c.loop-root.root-index _ (printing g.K.Sink.state c.args.printer.now) (printing g.K.Sink.state c.loop-root.printer) (printing g.K.Sink.state c.print.new.self)
          c.loop-root-test.true inv.printed (rw (c.as_bytes.ensures.bytes, c.root_line-line.ensures) at c.in_ok-print.ensures.prints);
      faults = c.in_ok-print.ensures.faults ∙ inv.faults;
    }

pub returns-in_err-print-clause-prints : goal.returns-in_err-print-clause-prints
returns-in_err-print-clause-prints g c =
    begun_with c.from_residual.result c.from_residual.ensures.0
    (line_begun told_root c.args.roots.now c.loop-root.root-index _ (printing g.K.Sink.state c.args.printer.now) (printing g.K.Sink.state c.loop-root.printer) (printing g.K.Sink.state c.print.new.self)
    c.loop-root-test.true c.loop-root.invariant.printed (rw (c.as_bytes.ensures.bytes, c.root_line-line.ensures) at c.in_err-print.ensures.prints))

pub returns-clause-prints : goal.returns-clause-prints
returns-clause-prints g c =
    all_printed told_root c.args.roots.now c.loop-root.root-index (printing g.K.Sink.state c.args.printer.now) (printing g.K.Sink.state c.loop-root.printer) c.loop-root-test.false c.loop-root.invariant.printed
