use Rattle.std.proofs.Common.{Some, None, Ok, Err, IfSome, refl, ap, ◌∙◌, subst}
use Rattle.pd_kinds.proofs.ResultLemmas.{if_any}
use Rattle.pd_image.proofs.CrashLemmas.{only_reads_both}
use Rattle.pd_tree.specs.Stack.{IsNext}
use Rattle.pd_meaning_thin.specs.declared.devices.DeviceRow.{DeviceRow}
use Rattle.pd_meaning_thin.specs.Runs.{rows_left}
use Rattle.pd_query.specs.declared.query.QueryFault.{QueryFault}
use Rattle.pd_query.specs.declared.query.QueryFault.TheVariants.{Device}
use Rattle.pd_query.proofs.QueryLemmas.{lost_with, one_told, so_far_all, so_far_lost, so_far_more, so_far_stops}
use Rattle.pd_uses.specs.Uses.{device_line, tallied_rows}
use Rattle.pd_uses.proofs.LineLemmas.{line_told, tallied_first_line}
use Rattle.pd_uses.proofs.device_list.add_rows.Goals as goal

pub returns-in-Err-clause-prints : goal.returns-in-Err-clause-prints
returns-in-Err-clause-prints g c = so_far_stops (g.D.Device.state c.args.dev.now).held Device c.loop-row.invariant.so_far

pub returns-in_err-add_parts-in-Some-clause-prints : goal.returns-in_err-add_parts-in-Some-clause-prints
returns-in_err-add_parts-in-Some-clause-prints g c =
    lost_with (g.D.Device.state c.args.dev.now).held {F = QueryFault} {fault = c.in_err-add_parts-in-Some.field-0.0} c.from_residual.result c.from_residual.ensures.0
    (so_far_lost (g.D.Device.state c.args.dev.now).held (λ image. tallied_rows c.first_tally-number.result.1.now (rows_left image c.next.new.self)) c.loop-row.invariant.so_far
    (one_told (g.D.Device.state c.args.dev.now).held (λ image next. tallied_first_line c.loop-row.left.now c.first_tally-number.result.1.now c.first_tally-number.result.0 c.in-Some.row (rows_left image c.loop-row.devices) (rows_left image c.next.new.self) c.first_tally-number.ensures.first c.first_tally-number.ensures.others next)
    (subst (λ o. IfSome o (λ image. IsNext {X = DeviceRow} (Some c.in-Some.row) (rows_left image c.loop-row.devices) (rows_left image c.next.new.self))) c.loop-row.invariant.kept.held
    (rw c.in-Some.is at c.in-Ok.ensures.next)))
    (line_told {E = QueryFault} (g.D.Device.state c.args.dev.now).held (λ image. device_line c.in-Some.row c.first_tally-number.result.0) (device_line c.in-Some.row c.first_tally-number.result.0) {result = Err c.in_err-add_parts-in-Some.field-0.0} (if_any (g.D.Device.state c.args.dev.now).held (λ image. refl)) c.in_err-add_parts-in-Some.ensures.prints))

pub returns-in-None-clause-prints : goal.returns-in-None-clause-prints
returns-in-None-clause-prints g c =
    so_far_all (g.D.Device.state c.args.dev.now).held tt c.loop-row.invariant.so_far
    (one_told (g.D.Device.state c.args.dev.now).held (λ image none. ap (tallied_rows c.loop-row.left.now) none.0)
    (subst (λ o. IfSome o (λ image. IsNext {X = DeviceRow} None (rows_left image c.loop-row.devices) (rows_left image c.next.new.self))) c.loop-row.invariant.kept.held
    (rw c.in-None.is at c.in-Ok.ensures.next)))

pub loop-row-preserved : goal.loop-row-preserved
loop-row-preserved g c =
    record {
      same_reference = c.in_ok-add_parts-in-Some.ensures.same_reference ∙ c.loop-row.invariant.same_reference;
      so_far = so_far_more (g.D.Device.state c.args.dev.now).held {E = QueryFault} {done = tt} c.loop-row.invariant.so_far
          (one_told (g.D.Device.state c.args.dev.now).held (λ image next. tallied_first_line c.loop-row.left.now c.first_tally-number.result.1.now c.first_tally-number.result.0 c.in-Some.row (rows_left image c.loop-row.devices) (rows_left image c.next.new.self) c.first_tally-number.ensures.first c.first_tally-number.ensures.others next)
          (subst (λ o. IfSome o (λ image. IsNext {X = DeviceRow} (Some c.in-Some.row) (rows_left image c.loop-row.devices) (rows_left image c.next.new.self))) c.loop-row.invariant.kept.held
          (rw c.in-Some.is at c.in-Ok.ensures.next)))
          (line_told {E = QueryFault} (g.D.Device.state c.args.dev.now).held (λ image. device_line c.in-Some.row c.first_tally-number.result.0) (device_line c.in-Some.row c.first_tally-number.result.0) {result = Ok tt} (if_any (g.D.Device.state c.args.dev.now).held (λ image. refl)) c.in_ok-add_parts-in-Some.ensures.prints);
      kept = only_reads_both c.loop-row.invariant.kept c.in-Ok.ensures.kept;
      dev_faults = c.in-Ok.ensures.faults ∙ c.loop-row.invariant.dev_faults;
      out_faults = c.in_ok-add_parts-in-Some.ensures.faults ∙ c.loop-row.invariant.out_faults;
    }
