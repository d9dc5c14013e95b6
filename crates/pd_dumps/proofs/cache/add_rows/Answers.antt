use Rattle.std.proofs.Common.{Some, None, Err, IfSome, ap, sym, ◌∙◌, subst}
use Rattle.pd_image.proofs.CrashLemmas.{only_reads_both}
use Rattle.pd_tree.specs.Stack.{IsNext}
use Rattle.pd_meaning_cache.specs.declared.cache_rows.CacheRow.{CacheRow}
use Rattle.pd_meaning_cache.specs.Sides.{Knows, rows_ahead}
use Rattle.pd_query.specs.declared.query.QueryFault.{QueryFault}
use Rattle.pd_query.specs.declared.query.QueryFault.TheVariants.{Device}
use Rattle.pd_query.proofs.QueryLemmas.{lost_with, one_told, prints_known, so_far_all, so_far_lost, so_far_more, so_far_stops}
use Rattle.pd_dumps.specs.CacheLines.{rows_text}
use Rattle.pd_dumps.proofs.CacheMeaningLemmas.{row_first}
use Rattle.pd_dumps.proofs.cache.add_rows.Goals as goal

pub returns-in-Err-clause-prints : goal.returns-in-Err-clause-prints
returns-in-Err-clause-prints g c = so_far_stops (g.D.Device.state c.args.dev.now).held Device c.loop-row.invariant.so_far

pub returns-in_err-print_text_line-in-Some-clause-prints : goal.returns-in_err-print_text_line-in-Some-clause-prints
returns-in_err-print_text_line-in-Some-clause-prints g c =
    lost_with (g.D.Device.state c.args.dev.now).held c.from_residual.result c.from_residual.ensures.0
    (so_far_lost (g.D.Device.state c.args.dev.now).held (λ image. rows_text (rows_ahead image c.next.new.self)) c.loop-row.invariant.so_far
    (one_told (g.D.Device.state c.args.dev.now).held (λ image next. row_first c.in-Some.row (rows_ahead image c.loop-row.rows) (rows_ahead image c.next.new.self) next)
    (subst (λ o. IfSome o (λ image. IsNext {X = CacheRow} (Some c.in-Some.row) (rows_ahead image c.loop-row.rows) (rows_ahead image c.next.new.self))) c.loop-row.invariant.kept.held
    (rw c.in-Some.is at c.in-Ok.ensures.next)))
    (prints_known {result = Err c.in_err-print_text_line-in-Some.field-0.0} (g.D.Device.state c.args.dev.now).held (rw c.map_line.ensures at c.in_err-print_text_line-in-Some.ensures.prints)))

pub returns-in-None-clause-prints : goal.returns-in-None-clause-prints
returns-in-None-clause-prints g c =
    so_far_all (g.D.Device.state c.args.dev.now).held tt c.loop-row.invariant.so_far
    (one_told (g.D.Device.state c.args.dev.now).held (λ image none. ap rows_text none.0)
    (subst (λ o. IfSome o (λ image. IsNext {X = CacheRow} None (rows_ahead image c.loop-row.rows) (rows_ahead image c.next.new.self))) c.loop-row.invariant.kept.held
    (rw c.in-None.is at c.in-Ok.ensures.next)))

pub next-requires-clause-knows : goal.next-requires-clause-knows
next-requires-clause-knows g c = subst (λ o. IfSome o (λ image. Knows image c.loop-row.rows)) (sym c.loop-row.invariant.kept.held) c.loop-row.invariant.knows

pub loop-row-preserved : goal.loop-row-preserved
loop-row-preserved g c =
    record {
      same_reference = c.in_ok-print_text_line-in-Some.ensures.same_reference ∙ c.loop-row.invariant.same_reference;
      so_far = so_far_more (g.D.Device.state c.args.dev.now).held {E = QueryFault} c.loop-row.invariant.so_far
          (one_told (g.D.Device.state c.args.dev.now).held (λ image next. row_first c.in-Some.row (rows_ahead image c.loop-row.rows) (rows_ahead image c.next.new.self) next)
          (subst (λ o. IfSome o (λ image. IsNext {X = CacheRow} (Some c.in-Some.row) (rows_ahead image c.loop-row.rows) (rows_ahead image c.next.new.self))) c.loop-row.invariant.kept.held
          (rw c.in-Some.is at c.in-Ok.ensures.next)))
          (prints_known (g.D.Device.state c.args.dev.now).held (rw c.map_line.ensures at c.in_ok-print_text_line-in-Some.ensures.prints));
      knows = subst (λ o. IfSome o (λ image. Knows image c.next.new.self)) c.loop-row.invariant.kept.held c.in-Ok.ensures.knows;
      kept = only_reads_both c.loop-row.invariant.kept c.in-Ok.ensures.kept;
      dev_faults = c.in-Ok.ensures.faults ∙ c.loop-row.invariant.dev_faults;
      out_faults = c.in_ok-print_text_line-in-Some.ensures.faults ∙ c.loop-row.invariant.out_faults;
    }
