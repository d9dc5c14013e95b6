use Rattle.std.proofs.Common.{refl, ◌∙◌}
use Rattle.pd_lines.specs.Printer.{printing}
use Rattle.pd_lines.proofs.Printing.{begun_with, printed_none}
use Rattle.pd_kept.specs.States.{found_line}
use Rattle.pd_kept.proofs.StatesLemmas.{all_printed, line_begun, line_printed}
use Rattle.pd_kept.proofs.states.print_states.Goals as goal

pub loop-state-init : goal.loop-state-init
loop-state-init g c = record { same_reference = refl; printed = printed_none (printing g.K.Sink.state c.args.printer.now); faults = refl }

pub loop-state-preserved : goal.loop-state-preserved
loop-state-preserved g c =
    let inv = c.loop-state.invariant in
    record {
      same_reference = c.in_ok-print.ensures.same_reference ∙ inv.same_reference;
      printed = line_printed (found_line c.args.word.now) c.args.states.now c.loop-state.state-index _ (printing g.K.Sink.state c.args.printer.now) (printing g.K.Sink.state c.loop-state.printer) (printing g.K.Sink.state c.print.new.self)
          c.loop-state-test.true inv.printed (rw (c.as_bytes.ensures.bytes, c.line_of.ensures) at c.in_ok-print.ensures.prints);
      faults = c.in_ok-print.ensures.faults ∙ inv.faults;
    }

pub returns-in_err-print-clause-prints : goal.returns-in_err-print-clause-prints
returns-in_err-print-clause-prints g c =
    begun_with c.from_residual.result c.from_residual.ensures.0
    (line_begun (found_line c.args.word.now) c.args.states.now c.loop-state.state-index _ (printing g.K.Sink.state c.args.printer.now) (printing g.K.Sink.state c.loop-state.printer) (printing g.K.Sink.state c.print.new.self)
    c.loop-state-test.true c.loop-state.invariant.printed (rw (c.as_bytes.ensures.bytes, c.line_of.ensures) at c.in_err-print.ensures.prints))

pub returns-clause-prints : goal.returns-clause-prints
returns-clause-prints g c =
    all_printed (found_line c.args.word.now) c.args.states.now c.loop-state.state-index (printing g.K.Sink.state c.args.printer.now) (printing g.K.Sink.state c.loop-state.printer) c.loop-state-test.false c.loop-state.invariant.printed
