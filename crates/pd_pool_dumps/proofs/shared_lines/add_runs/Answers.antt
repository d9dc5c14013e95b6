use Rattle.std.proofs.Common.{Some, None, Err, IfSome, ap, ◌∙◌, subst}
use Rattle.pd_image.proofs.CrashLemmas.{only_reads_both}
use Rattle.pd_lines.specs.Printer.{printing}
use Rattle.pd_tree.specs.Stack.{IsNext}
use Rattle.pd_meaning_thin.specs.declared.joined.Run.{Run}
use Rattle.pd_meaning_thin.specs.Runs.{runs_left}
use Rattle.pd_pool_dumps.specs.ThinText.{given_text}
use Rattle.pd_query.specs.declared.query.QueryFault.{QueryFault}
use Rattle.pd_query.specs.declared.query.QueryFault.TheVariants.{Device}
use Rattle.pd_query.proofs.QueryLemmas.{lost_with, one_told, prints_known, so_far_all, so_far_lost, so_far_more, so_far_stops}
use Rattle.pd_pool_dumps.proofs.RunLemmas.{run_first}
use Rattle.pd_pool_dumps.proofs.shared_lines.add_runs.Goals as goal

pub returns-in-Err-clause-prints : goal.returns-in-Err-clause-prints
returns-in-Err-clause-prints g c = so_far_stops (g.D.Device.state c.args.dev.now).held Device c.loop-run.invariant.so_far

pub returns-in_err-print_text_line-in-Some-clause-prints : goal.returns-in_err-print_text_line-in-Some-clause-prints
returns-in_err-print_text_line-in-Some-clause-prints g c =
    lost_with (g.D.Device.state c.args.dev.now).held {new = printing g.K.Sink.state c.print_text_line.new.printer} c.from_residual.result c.from_residual.ensures.0
    (so_far_lost (g.D.Device.state c.args.dev.now).held (λ image. given_text (runs_left image c.next.new.self)) c.loop-run.invariant.so_far
    (one_told (g.D.Device.state c.args.dev.now).held (λ image next. run_first c.in-Some.run' (runs_left image c.loop-run.runs) (runs_left image c.next.new.self) next)
    (subst (λ o. IfSome o (λ image. IsNext {X = Run} (Some c.in-Some.run') (runs_left image c.loop-run.runs) (runs_left image c.next.new.self))) c.loop-run.invariant.kept.held
    (rw c.in-Some.is at c.in-Ok.ensures.next)))
    (prints_known {result = Err c.in_err-print_text_line-in-Some.field-0.0} (g.D.Device.state c.args.dev.now).held (rw c.map_line.ensures at c.in_err-print_text_line-in-Some.ensures.prints)))

pub returns-in-None-clause-prints : goal.returns-in-None-clause-prints
returns-in-None-clause-prints g c =
    so_far_all (g.D.Device.state c.args.dev.now).held tt c.loop-run.invariant.so_far
    (one_told (g.D.Device.state c.args.dev.now).held (λ image none. ap given_text none.0)
    (subst (λ o. IfSome o (λ image. IsNext {X = Run} None (runs_left image c.loop-run.runs) (runs_left image c.next.new.self))) c.loop-run.invariant.kept.held
    (rw c.in-None.is at c.in-Ok.ensures.next)))

pub loop-run-preserved : goal.loop-run-preserved
loop-run-preserved g c =
    record {
      same_reference = c.in_ok-print_text_line-in-Some.ensures.same_reference ∙ c.loop-run.invariant.same_reference;
      so_far = so_far_more (g.D.Device.state c.args.dev.now).held {E = QueryFault} c.loop-run.invariant.so_far
          (one_told (g.D.Device.state c.args.dev.now).held (λ image next. run_first c.in-Some.run' (runs_left image c.loop-run.runs) (runs_left image c.next.new.self) next)
          (subst (λ o. IfSome o (λ image. IsNext {X = Run} (Some c.in-Some.run') (runs_left image c.loop-run.runs) (runs_left image c.next.new.self))) c.loop-run.invariant.kept.held
          (rw c.in-Some.is at c.in-Ok.ensures.next)))
          (prints_known (g.D.Device.state c.args.dev.now).held (rw c.map_line.ensures at c.in_ok-print_text_line-in-Some.ensures.prints));
      kept = only_reads_both c.loop-run.invariant.kept c.in-Ok.ensures.kept;
      dev_faults = c.in-Ok.ensures.faults ∙ c.loop-run.invariant.dev_faults;
      out_faults = c.in_ok-print_text_line-in-Some.ensures.faults ∙ c.loop-run.invariant.out_faults;
    }
