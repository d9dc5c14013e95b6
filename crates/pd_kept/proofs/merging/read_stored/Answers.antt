use Rattle.std.proofs.Common.{ℕ, [], None, Some, IfSome, map, subst, refl, ◌∙◌}
use Rattle.std.proofs.lemmas.List.{append-nil}
use Rattle.pd_image.proofs.CrashLemmas.{only_reads_both}
use Rattle.pd_value.specs.declared.thin.Details.{Details}
use Rattle.pd_tree.specs.Stack.{IsNext}
use Rattle.pd_meaning_thin.specs.Runs.{details_of}
use Rattle.pd_salvage.specs.Cursor.{saved_left}
use Rattle.pd_salvage_shapes.proofs.VisitLemmas.{any_if}
use Rattle.pd_kept.specs.Kept.{pair_of}
use Rattle.pd_kept.proofs.TellingLemmas.{number_ascends, number_told, numbers_begun, numbers_over}
use Rattle.pd_kept.proofs.merging.read_stored.Goals as goal

pub loop-stored-init : goal.loop-stored-init
loop-stored-init g c =
    let begun = c.in_ok-entries.ensures in
    let none = c.new-stored.ensures.items in
    record {
      ascend = λ rest are. rw none (rw begun.least at are);
      told = any_if (g.D.Device.state c.args.dev.now).held (λ image. rw none (numbers_begun c.args.s.now image c.in_ok-entries.entries (begun.left image)));
      room = begun.room;
      kept = record { held = refl; access = refl; path = refl; blocks = refl; history = refl };
      faults = refl;
    }

pub loop-stored-preserved : goal.loop-stored-preserved
loop-stored-preserved g c =
    let inv = c.loop-stored.invariant in
    let held = (g.D.Device.state c.args.dev.now).held in
    let id = c.in-Some.id in
    let details = c.in-Some.details in
    let ascends = rw c.in-Some.is at c.in_ok-id.ensures.ascends in
    let adds = c.in_ok-add_stored.ensures in
    let next =
    subst (λ o. IfSome o (λ image. IsNext (Some (id, details)) (saved_left 24 details_of image c.loop-stored.entries) (saved_left 24 details_of image c.next.new.self))) inv.kept.held
    (rw c.in-Some.is at c.in_ok-id.ensures.next) in
    record {
      ascend = number_ascends c.loop-stored.stored.items c.add_stored.new.stored.items c.loop-stored.entries c.next.new.self id details.mapped ascends.0 ascends.1 adds inv.ascend;
      told = number_told held c.args.s.now c.loop-stored.stored.items c.add_stored.new.stored.items c.loop-stored.entries c.next.new.self id details adds inv.told next;
      room = c.in_ok-id.ensures.room ∙ inv.room;
      kept = only_reads_both inv.kept c.in_ok-id.ensures.kept;
      faults = c.in_ok-id.ensures.faults ∙ inv.faults;
    }

pub returns-clause-ascend : goal.returns-clause-ascend
returns-clause-ascend g c = rw (append-nil (map pair_of c.loop-stored.stored.items)) at (c.loop-stored.invariant.ascend [] tt)

pub returns-clause-told : goal.returns-clause-told
returns-clause-told g c =
    let inv = c.loop-stored.invariant in
    numbers_over (g.D.Device.state c.args.dev.now).held c.args.s.now c.loop-stored.stored.items c.loop-stored.entries c.next.new.self inv.told
    (subst (λ o. IfSome o (λ image. IsNext {X = ℕ × Details} None (saved_left 24 details_of image c.loop-stored.entries) (saved_left 24 details_of image c.next.new.self))) inv.kept.held
    (rw c.in_default.is at c.in_ok-id.ensures.next))
