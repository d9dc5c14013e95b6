use Rattle.std.proofs.Common.{ℕ, [], None, Some, IfSome, sym, subst, ◌∙◌, refl}
use Rattle.std.proofs.lemmas.Bool.{not-false, not-true}
use Rattle.std.proofs.lemmas.List.{append-nil}
use Rattle.pd_image.proofs.CrashLemmas.{only_reads_both}
use Rattle.pd_kinds.specs.Graph.{is_outside}
use Rattle.pd_value.specs.declared.thin.Root.{Root}
use Rattle.pd_tree.specs.Cursor.{root_of}
use Rattle.pd_tree.specs.Stack.{IsNext}
use Rattle.pd_salvage.specs.Cursor.{saved_left}
use Rattle.pd_salvage_shapes.specs.Tops.{AddsTop}
use Rattle.pd_salvage_shapes.proofs.SeenLemmas.{added_lawful, added_told, left_lawful, left_told, tops_begun, tops_ended}
use Rattle.pd_salvage_shapes.proofs.VisitLemmas.{any_if}
use Rattle.pd_salvage_shapes.proofs.tops.read_tops.Goals as goal

pub loop-found-init : goal.loop-found-init
loop-found-init g c =
    let begun = c.in_ok-tops.ensures in
    let none = c.new-found.ensures.items in
    record {
      lawful = λ rest are. rw none (rw begun.least at are);
      told = any_if (g.D.Device.state c.args.dev.now).held (λ image. rw none (tops_begun c.args.s.now image c.in_ok-tops.tops c.in_ok-tops.details begun));
      room = begun.room;
      details_room_is = begun.details_room_is;
      kept = record { held = refl; access = refl; path = refl; blocks = refl; history = refl };
      faults = refl;
    }

pub loop-found-preserved-in-Continue-branch-4 : goal.loop-found-preserved-in-Continue-branch-4
loop-found-preserved-in-Continue-branch-4 g c =
    let inv = c.loop-found.invariant in
    let s = c.args.s.now in
    let held = (g.D.Device.state c.args.dev.now).held in
    let id = c.in-Some.id in
    let root = c.in-Some.root.0 in
    let ascends = rw c.in-Some.is at c.in_ok-id.ensures.ascends in
    let next =
    subst (λ o. IfSome o (λ image. IsNext (Some (id, root_of root)) (saved_left 8 root_of image c.loop-found.tops) (saved_left 8 root_of image c.next.new.self))) inv.kept.held
    (rw c.in-Some.is at c.in_ok-id.ensures.next) in
    let inside = not-true (is_outside s.meta_map.blocks root) (sym c.if-is_inside.ensures) in
    let kept = only_reads_both inv.kept c.in_ok-id.ensures.kept in
    let adds =
    subst (λ o. AddsTop o s id root c.loop-found.details c.add_top.new.details c.loop-found.found.items c.add_top.new.found.items) kept.held c.in_ok-add_top.ensures.adds in
    record {
      lawful = added_lawful held s c.loop-found.found.items c.loop-found.tops c.next.new.self c.loop-found.details id root ascends.0 ascends.1 inv.lawful inv.told next c.add_top.new.details c.add_top.new.found.items inside adds;
      told = added_told held s c.loop-found.found.items c.loop-found.tops c.next.new.self c.loop-found.details id root ascends.0 ascends.1 inv.lawful inv.told next c.add_top.new.details c.add_top.new.found.items inside adds;
      room = c.in_ok-id.ensures.room ∙ inv.room;
      details_room_is = c.in_ok-add_top.ensures.room ∙ inv.details_room_is;
      kept = only_reads_both kept c.in_ok-add_top.ensures.kept;
      faults = c.in_ok-add_top.ensures.faults ∙ (c.in_ok-id.ensures.faults ∙ inv.faults);
    }

pub loop-found-preserved : goal.loop-found-preserved
loop-found-preserved g c =
    let inv = c.loop-found.invariant in
    let s = c.args.s.now in
    let held = (g.D.Device.state c.args.dev.now).held in
    let id = c.in-Some.id in
    let root = c.in-Some.root.0 in
    let ascends = rw c.in-Some.is at c.in_ok-id.ensures.ascends in
    let next =
    subst (λ o. IfSome o (λ image. IsNext (Some (id, root_of root)) (saved_left 8 root_of image c.loop-found.tops) (saved_left 8 root_of image c.next.new.self))) inv.kept.held
    (rw c.in-Some.is at c.in_ok-id.ensures.next) in
    let outside = not-false (is_outside s.meta_map.blocks root) (sym c.if-is_inside.ensures) in
    record {
      lawful = left_lawful held s c.loop-found.found.items c.loop-found.tops c.next.new.self c.loop-found.details id root ascends.0 ascends.1 inv.lawful inv.told next outside;
      told = left_told held s c.loop-found.found.items c.loop-found.tops c.next.new.self c.loop-found.details id root ascends.0 ascends.1 inv.lawful inv.told next outside;
      room = c.in_ok-id.ensures.room ∙ inv.room;
      details_room_is = inv.details_room_is;
      kept = only_reads_both inv.kept c.in_ok-id.ensures.kept;
      faults = c.in_ok-id.ensures.faults ∙ inv.faults;
    }

pub returns-clause-lawful : goal.returns-clause-lawful
returns-clause-lawful g c = rw (append-nil c.loop-found.found.items) at (c.loop-found.invariant.lawful [] tt)

pub returns-clause-told : goal.returns-clause-told
returns-clause-told g c =
    let inv = c.loop-found.invariant in
    tops_ended (g.D.Device.state c.args.dev.now).held c.args.s.now c.loop-found.found.items c.loop-found.tops c.next.new.self c.loop-found.details inv.told
    (subst (λ o. IfSome o (λ image. IsNext {X = ℕ × Root} None (saved_left 8 root_of image c.loop-found.tops) (saved_left 8 root_of image c.next.new.self))) inv.kept.held
    (rw c.in_default.is at c.in_ok-id.ensures.next))
