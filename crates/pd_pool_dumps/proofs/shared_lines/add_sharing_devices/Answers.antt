use Rattle.std.proofs.Common.{Some, None, IfSome, ap, ◌∙◌, subst}
use Rattle.std.specs.List.{flat_map}
use Rattle.pd_grammar.specs.Texts.{text_of_lines}
use Rattle.pd_image.proofs.CrashLemmas.{only_reads_both}
use Rattle.pd_lines.specs.Printer.{printing}
use Rattle.pd_grammar.specs.ThinText.{thin}
use Rattle.pd_tree.specs.Stack.{IsNext}
use Rattle.pd_meaning_thin.specs.declared.devices.DeviceRow.{DeviceRow}
use Rattle.pd_meaning_thin.specs.Runs.{rows_left}
use Rattle.pd_meaning_thin.specs.Walk.{shared_blocks}
use Rattle.pd_pool_dumps.specs.SharedLines.{sharing_lines}
use Rattle.pd_query.specs.declared.query.QueryFault.TheVariants.{Device}
use Rattle.pd_query.proofs.QueryLemmas.{lost_with, one_told, so_far_all, so_far_lost, so_far_more, so_far_stops}
use Rattle.pd_pool_dumps.proofs.SharedTextLemmas.{sharing_first}
use Rattle.pd_pool_dumps.proofs.shared_lines.add_sharing_devices.Goals as goal

pub returns-in-Err-clause-prints : goal.returns-in-Err-clause-prints
returns-in-Err-clause-prints g c = so_far_stops (g.D.Device.state c.args.dev.now).held Device c.loop-row.invariant.so_far

pub returns-in_err-add_sharing_device-in-Some-clause-prints : goal.returns-in_err-add_sharing_device-in-Some-clause-prints
returns-in_err-add_sharing_device-in-Some-clause-prints g c =
    let shared = shared_blocks c.args.shared.now in
    lost_with (g.D.Device.state c.args.dev.now).held {new = printing g.K.Sink.state c.add_sharing_device.new.printer} c.from_residual.result c.from_residual.ensures.0
    (so_far_lost (g.D.Device.state c.args.dev.now).held (λ image. text_of_lines thin (flat_map (sharing_lines shared image) (rows_left image c.next.new.self))) c.loop-row.invariant.so_far
    (one_told (g.D.Device.state c.args.dev.now).held (λ image next. sharing_first shared image c.in-Some.row (rows_left image c.loop-row.devices) (rows_left image c.next.new.self) next)
    (subst (λ o. IfSome o (λ image. IsNext {X = DeviceRow} (Some c.in-Some.row) (rows_left image c.loop-row.devices) (rows_left image c.next.new.self))) c.loop-row.invariant.kept.held
    (rw c.in-Some.is at c.in-Ok.ensures.next)))
    (rw (only_reads_both c.loop-row.invariant.kept c.in-Ok.ensures.kept).held at c.in_err-add_sharing_device-in-Some.ensures.prints))

pub returns-in-None-clause-prints : goal.returns-in-None-clause-prints
returns-in-None-clause-prints g c =
    let shared = shared_blocks c.args.shared.now in
    so_far_all (g.D.Device.state c.args.dev.now).held tt c.loop-row.invariant.so_far
    (one_told (g.D.Device.state c.args.dev.now).held (λ image none. ap (λ rows. text_of_lines thin (flat_map (sharing_lines shared image) rows)) none.0)
    (subst (λ o. IfSome o (λ image. IsNext {X = DeviceRow} None (rows_left image c.loop-row.devices) (rows_left image c.next.new.self))) c.loop-row.invariant.kept.held
    (rw c.in-None.is at c.in-Ok.ensures.next)))

pub loop-row-preserved : goal.loop-row-preserved
loop-row-preserved g c =
    let shared = shared_blocks c.args.shared.now in
    record {
      same_reference = c.in_ok-add_sharing_device-in-Some.ensures.same_reference ∙ c.loop-row.invariant.same_reference;
      so_far = so_far_more (g.D.Device.state c.args.dev.now).held c.loop-row.invariant.so_far
          (one_told (g.D.Device.state c.args.dev.now).held (λ image next. sharing_first shared image c.in-Some.row (rows_left image c.loop-row.devices) (rows_left image c.next.new.self) next)
          (subst (λ o. IfSome o (λ image. IsNext {X = DeviceRow} (Some c.in-Some.row) (rows_left image c.loop-row.devices) (rows_left image c.next.new.self))) c.loop-row.invariant.kept.held
          (rw c.in-Some.is at c.in-Ok.ensures.next)))
          (rw (only_reads_both c.loop-row.invariant.kept c.in-Ok.ensures.kept).held at c.in_ok-add_sharing_device-in-Some.ensures.prints);
      kept = only_reads_both (only_reads_both c.loop-row.invariant.kept c.in-Ok.ensures.kept) c.in_ok-add_sharing_device-in-Some.ensures.kept;
      dev_faults = c.in_ok-add_sharing_device-in-Some.ensures.faults.0 ∙ (c.in-Ok.ensures.faults ∙ c.loop-row.invariant.dev_faults);
      out_faults = c.in_ok-add_sharing_device-in-Some.ensures.faults.1 ∙ c.loop-row.invariant.out_faults;
    }
