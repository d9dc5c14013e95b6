use Rattle.std.proofs.Common.{◌∙◌, get_or}
use Rattle.pd_lines.proofs.Printing.{begun_with, printed_both}
use Rattle.pd_uses.specs.declared.found.Visit.{Visit}
use Rattle.pd_uses.specs.InOrder.{visit_text}
use Rattle.pd_uses.proofs.OrderLemmas.{leaf_text, parts_lost, parts_so_far}
use Rattle.pd_uses.proofs.in_order.print_visits.Goals as goal

abbrev none : Visit
none = record { id = 0; leaf = 0 }

pub returns-in_err-print_runs-clause-prints : goal.returns-in_err-print_runs-clause-prints
returns-in_err-print_runs-clause-prints g c =
    let leaves = c.args.leaves.now in
    let i = c.loop-visit.visit-index in
    begun_with c.from_residual.result c.from_residual.ensures.0
    (parts_lost (visit_text leaves) c.args.visits.now i none c.loop-visit-test.true c.loop-visit.invariant.printed
    (rw (leaf_text leaves (get_or c.args.visits.now i none) c.runs_of-runs.result.now c.runs_of-runs.ensures) at c.in_err-print_runs.ensures.prints))

pub loop-visit-preserved : goal.loop-visit-preserved
loop-visit-preserved g c =
    let leaves = c.args.leaves.now in
    let i = c.loop-visit.visit-index in
    record {
      same_reference = c.in_ok-print_runs.ensures.same_reference ∙ c.loop-visit.invariant.same_reference;
      printed = rw (parts_so_far (visit_text leaves) c.args.visits.now i none c.loop-visit-test.true)
          (printed_both c.loop-visit.invariant.printed
          (rw (leaf_text leaves (get_or c.args.visits.now i none) c.runs_of-runs.result.now c.runs_of-runs.ensures) at c.in_ok-print_runs.ensures.prints));
      faults = c.in_ok-print_runs.ensures.faults ∙ c.loop-visit.invariant.faults;
    }
