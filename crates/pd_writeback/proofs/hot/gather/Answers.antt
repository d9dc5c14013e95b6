use Rattle.std.proofs.Common.{List, ◌++◌, IfSome, Some, None, ap, sym, ◌∙◌, subst}
use Rattle.pd_image.proofs.CrashLemmas.{only_reads_both}
use Rattle.pd_tree.specs.Stack.{IsNext}
use Rattle.pd_tree.proofs.NextLemmas.{if_both}
use Rattle.pd_answers.specs.Writebacks.{CachedBlock}
use Rattle.pd_meaning_cache.specs.declared.cache_rows.CacheRow.{CacheRow}
use Rattle.pd_meaning_cache.specs.Sides.{Knows, rows_ahead}
use Rattle.pd_writeback.specs.Plan.{hot_rows}
use Rattle.pd_writeback.proofs.PlanLemmas.{hot_last, hot_next}
use Rattle.pd_writeback.proofs.hot.gather.Goals as goal

pub next-requires-clause-knows : goal.next-requires-clause-knows
next-requires-clause-knows g c =
    let before = c.loop-row.invariant in
    subst (λ o. IfSome o (λ image. Knows image c.loop-row.rows)) (sym before.kept.held) before.knows

pub loop-row-preserved : goal.loop-row-preserved
loop-row-preserved g c =
    let before = c.loop-row.invariant in
    let taken = subst (λ o. IfSome o (λ image. IsNext {X = CacheRow} (Some c.in-Some.row) (rows_ahead image c.loop-row.rows) (rows_ahead image c.next.new.self))) before.kept.held
    (rw c.in-Some.is at c.in-Ok.ensures.next) in
    record {
      hot = if_both (g.A.Device.state c.args.meta.now).held
          (λ image held so_far next.
          ap (λ (cs : List CachedBlock). cs ++ hot_rows c.args.clean (rows_ahead image c.next.new.self)) c.in_ok-add_if_hot-in-Some.ensures
          ∙ hot_next c.args.clean c.in-Some.row _ _ (rows_ahead image c.loop-row.rows) (rows_ahead image c.next.new.self) so_far next)
          before.hot taken;
      knows = subst (λ o. IfSome o (λ image. Knows image c.next.new.self)) before.kept.held c.in-Ok.ensures.knows;
      kept = only_reads_both before.kept c.in-Ok.ensures.kept;
      faults = c.in-Ok.ensures.faults ∙ before.faults;
    }

pub returns-in-None-clause-hot : goal.returns-in-None-clause-hot
returns-in-None-clause-hot g c =
    let before = c.loop-row.invariant in
    if_both (g.A.Device.state c.args.meta.now).held
    (λ image held so_far none. hot_last c.args.clean _ _ (rows_ahead image c.loop-row.rows) so_far none.0)
    before.hot
    (subst (λ o. IfSome o (λ image. IsNext {X = CacheRow} None (rows_ahead image c.loop-row.rows) (rows_ahead image c.next.new.self))) before.kept.held
    (rw c.in-None.is at c.in-Ok.ensures.next))
