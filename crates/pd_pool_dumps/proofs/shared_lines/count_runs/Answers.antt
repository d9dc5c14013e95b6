use Rattle.std.proofs.Common.{Some, None, IfSome, sym, ◌∙◌, subst, arith}
use Rattle.pd_kinds.proofs.ResultLemmas.{if_both}
use Rattle.pd_image.proofs.CrashLemmas.{only_reads_both}
use Rattle.pd_tree.specs.Stack.{IsNext}
use Rattle.pd_meaning_thin.specs.declared.joined.Run.{Run}
use Rattle.pd_meaning_thin.specs.Runs.{runs_left}
use Rattle.pd_pool_dumps.proofs.SharedTextLemmas.{entries_end, entries_next}
use Rattle.pd_pool_dumps.proofs.shared_lines.count_runs.Goals as goal

pub returns-in-None-clause-entries : goal.returns-in-None-clause-entries
returns-in-None-clause-entries g c =
    if_both (g.D.Device.state c.args.dev.now).held (λ image counted none. sym (entries_end c.loop-run.entries (runs_left image c.loop-run.runs) none.0 c.loop-run.invariant.fits) ∙ counted) c.loop-run.invariant.counted
    (subst (λ o. IfSome o (λ image. IsNext {X = Run} None (runs_left image c.loop-run.runs) (runs_left image c.next.new.self))) c.loop-run.invariant.kept.held
    (rw c.in-None.is at c.in_ok-run.ensures.next))

pub loop-run-preserved : goal.loop-run-preserved
loop-run-preserved g c =
    let sum = c.saturating_add-entries.ensures in
    record {
      counted = if_both (g.D.Device.state c.args.dev.now).held
          (λ image counted next. sym (entries_next c.loop-run.entries _ c.in-Some.run' (runs_left image c.loop-run.runs) (runs_left image c.next.new.self) next c.saturating_add-entries.ensures) ∙ counted) c.loop-run.invariant.counted
          (subst (λ o. IfSome o (λ image. IsNext {X = Run} (Some c.in-Some.run') (runs_left image c.loop-run.runs) (runs_left image c.next.new.self))) c.loop-run.invariant.kept.held
          (rw c.in-Some.is at c.in_ok-run.ensures.next));
      fits = omega arith;
      kept = only_reads_both c.loop-run.invariant.kept c.in_ok-run.ensures.kept;
      dev_faults = c.in_ok-run.ensures.faults ∙ c.loop-run.invariant.dev_faults;
    }
