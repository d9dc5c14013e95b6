use Rattle.std.proofs.Common.{◌∙◌}
use Rattle.pd_lines.proofs.Printing.{begun_with, printed_both}
use Rattle.pd_uses.specs.declared.hit_runs.HitRun.{HitRun}
use Rattle.pd_uses.specs.InOrder.{run_text}
use Rattle.pd_uses.proofs.OrderLemmas.{parts_lost, parts_so_far}
use Rattle.pd_uses.proofs.in_order.print_runs.Goals as goal

abbrev none : HitRun
none = record { block = 0; virt = 0; number = 0 }

pub returns-in_err-print_run-clause-prints : goal.returns-in_err-print_run-clause-prints
returns-in_err-print_run-clause-prints g c =
    begun_with c.from_residual.result c.from_residual.ensures.0
    (parts_lost (run_text c.args.id) c.args.runs.now c.loop-run.run-index none c.loop-run-test.true c.loop-run.invariant.printed c.in_err-print_run.ensures.prints)

pub loop-run-preserved : goal.loop-run-preserved
loop-run-preserved g c = record {
  same_reference = c.in_ok-print_run.ensures.same_reference ∙ c.loop-run.invariant.same_reference;
  printed = rw (parts_so_far (run_text c.args.id) c.args.runs.now c.loop-run.run-index none c.loop-run-test.true)
      (printed_both c.loop-run.invariant.printed c.in_ok-print_run.ensures.prints);
  faults = c.in_ok-print_run.ensures.faults ∙ c.loop-run.invariant.faults;
}
