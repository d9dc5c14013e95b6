use Rattle.std.proofs.Common.{◌≡◌, ℕ, None, Some, IfSome, sym, subst, ◌∙◌}
use Rattle.std.proofs.lemmas.Bool.{not-false, not-true}
use Rattle.pd_image.proofs.CrashLemmas.{only_reads_both}
use Rattle.pd_kinds.specs.Graph.{is_outside}
use Rattle.pd_value.specs.declared.thin.Root.{Root}
use Rattle.pd_tree.specs.Cursor.{root_of}
use Rattle.pd_tree.specs.Stack.{IsNext}
use Rattle.pd_laid.specs.Salvage.{salvage_from}
use Rattle.pd_salvage.specs.Saved.{pool_of}
use Rattle.pd_salvage.specs.Saving.{head_of}
use Rattle.pd_salvage.specs.Cursor.{saved_least, saved_left}
use Rattle.pd_salvage.proofs.SavingLemmas.{all_sound, all_told, one_sound, one_told, skipped_sound, skipped_told}
use Rattle.pd_salvage.proofs.saving.Saving.save_all.Goals as goal

pub loop-id-preserved-in-Continue-branch-3 : goal.loop-id-preserved-in-Continue-branch-3
loop-id-preserved-in-Continue-branch-3 g c =
    let inv = c.loop-id.invariant in
    let old = c.loop-id.self in
    let tops = c.next.new.self in
    let new = c.save_device.new.self in
    let held = (g.D.Device.state c.args.dev.now).held in
    let id = c.in-Some.id in
    let root = c.in-Some.root.0 in
    let ascends = rw c.in-Some.is at c.in_ok-id.ensures.ascends in
    let next =
    subst (λ o. IfSome o (λ image. IsNext (Some (id, root_of root)) (saved_left 8 root_of image old.tops) (saved_left 8 root_of image tops))) inv.kept.held
    (rw c.in-Some.is at c.in_ok-id.ensures.next) in
    let inside = not-true (is_outside old.s.meta_map.blocks root) (sym c.if-is_inside.ensures) in
    let kept = only_reads_both inv.kept c.in_ok-id.ensures.kept in
    let saves = rw kept.held at c.in_ok-save_device.ensures.saves in
    let same = c.in_ok-save_device.ensures.same in
    record {
      saving = one_sound held id root old new tops ascends.0 ascends.1 next inv.saving inv.told same.0 same.1 inside saves;
      told = one_told held id root old new tops ascends.0 ascends.1 next inv.saving inv.told same.0 same.1 inside saves;
      last = rw kept.held at c.in_ok-save_device.ensures.last;
      ready = c.in_ok-save_device.ensures.ready;
      same = same.0 ∙ inv.same;
      kept = only_reads_both kept c.in_ok-save_device.ensures.kept;
      faults = c.in_ok-save_device.ensures.faults ∙ (c.in_ok-id.ensures.faults ∙ inv.faults);
    }

pub loop-id-preserved : goal.loop-id-preserved
loop-id-preserved g c =
    let inv = c.loop-id.invariant in
    let old = c.loop-id.self in
    let tops = c.next.new.self in
    let held = (g.D.Device.state c.args.dev.now).held in
    let id = c.in-Some.id in
    let root = c.in-Some.root.0 in
    let ascends = rw c.in-Some.is at c.in_ok-id.ensures.ascends in
    let next =
    subst (λ o. IfSome o (λ image. IsNext (Some (id, root_of root)) (saved_left 8 root_of image old.tops) (saved_left 8 root_of image tops))) inv.kept.held
    (rw c.in-Some.is at c.in_ok-id.ensures.next) in
    let outside = not-false (is_outside old.s.meta_map.blocks root) (sym c.if-is_inside.ensures) in
    record {
      saving = skipped_sound held id root old old tops ascends.0 ascends.1 next inv.saving inv.told outside;
      told = skipped_told held id root old old tops ascends.0 ascends.1 next inv.saving inv.told outside;
      last = inv.last;
      ready = record { tops = c.in_ok-id.ensures.room ∙ inv.ready.tops; details = inv.ready.details };
      same = inv.same;
      kept = only_reads_both inv.kept c.in_ok-id.ensures.kept;
      faults = c.in_ok-id.ensures.faults ∙ inv.faults;
    }

pub returns-clause-sound : goal.returns-clause-sound
returns-clause-sound g c =
    all_sound c.loop-id.self.s.data_map.blocks (saved_least c.loop-id.self.tops) c.loop-id.self.devices.items c.loop-id.self.runs c.loop-id.invariant.saving

pub returns-clause-saved : goal.returns-clause-saved
returns-clause-saved g c =
    let inv = c.loop-id.invariant in
    let old = c.loop-id.self in
    let held = (g.D.Device.state c.args.dev.now).held in
    subst (λ s. IfSome held (λ image. pool_of (record { head = head_of old.s; devices = old.devices.items; runs = old.runs }) ≡ salvage_from s image)) inv.same
    (all_told held old c.next.new.self inv.told
    (subst (λ o. IfSome o (λ image. IsNext {X = ℕ × Root} None (saved_left 8 root_of image old.tops) (saved_left 8 root_of image c.next.new.self))) inv.kept.held
    (rw c.in_default.is at c.in_ok-id.ensures.next)))
