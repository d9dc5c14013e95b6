use Rattle.std.proofs.Common.{Some, IfSome, refl, subst, ◌∙◌}
use Rattle.pd_kinds.proofs.ResultLemmas.{if_any, if_both}
use Rattle.pd_image.proofs.CrashLemmas.{only_reads_both}
use Rattle.pd_tree.specs.Stack.{IsNext}
use Rattle.pd_meaning_thin.specs.declared.devices.DeviceRow.{DeviceRow}
use Rattle.pd_meaning_thin.specs.Runs.{rows_left}
use Rattle.pd_uses.proofs.ListRowLemmas.{rows_both, rows_none, rows_one}
use Rattle.pd_uses.proofs.list_walk.tally_rows.Goals as goal

pub loop-row-init : goal.loop-row-init
loop-row-init g c = record {
  walks = if_any (g.D.Device.state c.args.dev.now).held (λ image. rows_none);
  kept = record { held = refl; access = refl; path = refl; blocks = refl; history = refl };
  faults = refl;
}

pub loop-row-preserved : goal.loop-row-preserved
loop-row-preserved g c =
    let so_far = c.loop-row.invariant in
    let held = (g.D.Device.state c.args.dev.now).held in
    let next = subst (λ o. IfSome o (λ image. IsNext {X = DeviceRow} (Some c.in-Some.row) (rows_left image c.loop-row.devices) (rows_left image c.next.new.self))) so_far.kept.held
    (rw c.in-Some.is at c.in-Ok.ensures.next) in
    let walks = rw (only_reads_both so_far.kept c.in-Ok.ensures.kept).held at c.in_ok-tally_row-in-Some.ensures.walks in
    record {
      walks = if_both held (λ image before step. rows_both before step) so_far.walks
          (if_both held (λ image next walks.
          rows_one c.in-Some.row (rows_left image c.loop-row.devices) (rows_left image c.next.new.self) c.loop-row.meets c.tally_row.new.meets c.loop-row.tallies c.begin.new.self c.tally_row.new.tallies
          next c.in_ok-begin-in-Some.ensures walks) next walks);
      kept = only_reads_both (only_reads_both so_far.kept c.in-Ok.ensures.kept) c.in_ok-tally_row-in-Some.ensures.kept;
      faults = c.in_ok-tally_row-in-Some.ensures.faults ∙ (c.in-Ok.ensures.faults ∙ so_far.faults);
    }
