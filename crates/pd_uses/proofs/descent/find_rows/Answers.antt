use Rattle.std.proofs.Common.{Some, None, IfSome, [], ◌∷◌, refl, ◌∙◌, subst}
use Rattle.pd_kinds.proofs.ResultLemmas.{if_any, if_both}
use Rattle.pd_image.proofs.CrashLemmas.{only_reads_both}
use Rattle.pd_tree.specs.Stack.{IsNext}
use Rattle.pd_meaning_thin.specs.declared.devices.DeviceRow.{DeviceRow}
use Rattle.pd_meaning_thin.specs.Runs.{rows_left}
use Rattle.pd_uses.specs.Descent.{FindsRows}
use Rattle.pd_uses.specs.FoundUses.{IsRight}
use Rattle.pd_uses.proofs.FoundLemmas.{rows_all, told_rows}
use Rattle.pd_uses.proofs.descent.find_rows.Goals as goal

pub loop-row-init : goal.loop-row-init
loop-row-init g c = record {
  finds = if_any (g.D.Device.state c.args.dev.now).held (λ image right. record { right = right; uses = refl });
  kept = record { held = refl; access = refl; path = refl; blocks = refl; history = refl };
  faults = refl;
}

pub returns-in-None-clause-finds : goal.returns-in-None-clause-finds
returns-in-None-clause-finds g c =
    if_both (g.D.Device.state c.args.dev.now).held (λ image finds none right. rows_all c.args.region image (finds right) none.0) c.loop-row.invariant.finds
    (subst (λ o. IfSome o (λ image. IsNext {X = DeviceRow} None (rows_left image c.loop-row.devices) (rows_left image c.next.new.self))) c.loop-row.invariant.kept.held
    (rw c.in-None.is at c.in-Ok.ensures.next))

pub loop-row-preserved : goal.loop-row-preserved
loop-row-preserved g c =
    record {
      finds =
          told_rows (g.D.Device.state c.args.dev.now).held c.args.region c.in-Some.row (λ image. rows_left image c.args.devices.now) (λ image. rows_left image c.loop-row.devices) (λ image. rows_left image c.next.new.self)
          c.args.found.now c.loop-row.found c.find_row.new.found c.loop-row.invariant.finds
          (subst (λ o. IfSome o (λ image. IsNext {X = DeviceRow} (Some c.in-Some.row) (rows_left image c.loop-row.devices) (rows_left image c.next.new.self))) c.loop-row.invariant.kept.held
          (rw c.in-Some.is at c.in-Ok.ensures.next))
          (subst (λ o. IfSome o (λ image. IsRight c.args.region image c.loop-row.found → FindsRows c.args.region image (c.in-Some.row ∷ []) c.loop-row.found c.find_row.new.found))
          (only_reads_both c.loop-row.invariant.kept c.in-Ok.ensures.kept).held c.in_ok-find_row-in-Some.ensures.finds);
      kept = only_reads_both (only_reads_both c.loop-row.invariant.kept c.in-Ok.ensures.kept) c.in_ok-find_row-in-Some.ensures.kept;
      faults = c.in_ok-find_row-in-Some.ensures.faults ∙ (c.in-Ok.ensures.faults ∙ c.loop-row.invariant.faults);
    }
