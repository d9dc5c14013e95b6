use Rattle.std.proofs.Common.{◌≡◌, ◌+◌, ◌≤◌, [], ◌∷◌, IfSome, length, subst, ◌∙◌, arith}
use Rattle.pd_image.proofs.CrashLemmas.{only_reads_both}
use Rattle.pd_tree.specs.Cursor.{cursor_items, cursor_nodes}
use Rattle.pd_tree.specs.Cursor.{root_of}
use Rattle.pd_tree.proofs.NextLemmas.{if_both}
use Rattle.pd_meaning_thin.specs.Walk.{roots_of}
use Rattle.pd_meaning_thin.specs.Walk.{AreWalked}
use Rattle.pd_meaning_thin.proofs.WalkLemmas.{next_walked}
use Rattle.pd_meaning_thin.proofs.WalkLemmas.{both_some}
use Rattle.pd_meaning_thin.proofs.walk.walk_devices.Goals as goal

pub loop-waiting-preserved : goal.loop-waiting-preserved
loop-waiting-preserved g c =
    let so_far = c.loop-waiting.invariant in
    let held = (g.D.Device.state c.args.dev.now).held in
    let next = subst (λ o. IfSome o (λ image. cursor_items 8 root_of image c.loop-waiting.devices ≡ (c.in-Some.field-0-0, c.in-Some.root) ∷ cursor_items 8 root_of image c.next.new.self))
    so_far.kept.held (rw c.in-Some.is at c.in_ok-root.ensures.next) in
    let walk = subst (λ o. IfSome o (λ image. AreWalked image (c.in-Some.root.0 ∷ []) c.loop-waiting.marks c.walk_tree.new.marks))
    (c.in_ok-root.ensures.kept.held ∙ so_far.kept.held) c.in_ok-walk_tree.ensures.walked in
    let walk_reads = c.in_ok-walk_tree.ensures.reads in
    record {
      walked = if_both held
          (λ image is to step.
          next_walked image (roots_of (cursor_items 8 root_of image c.args.devices.now)) (cursor_items 8 root_of image c.loop-waiting.devices) (cursor_items 8 root_of image c.next.new.self)
          c.in-Some.field-0-0 c.in-Some.root c.args.marks.now c.loop-waiting.marks c.walk_tree.new.marks so_far.same_number step.0 to step.1)
          so_far.walked
          (both_some (λ image. cursor_items 8 root_of image c.loop-waiting.devices ≡ (c.in-Some.field-0-0, c.in-Some.root) ∷ cursor_items 8 root_of image c.next.new.self)
          (λ image. AreWalked image (c.in-Some.root.0 ∷ []) c.loop-waiting.marks c.walk_tree.new.marks) held next walk);
      none = c.in_ok-walk_tree.ensures.none;
      same_number = c.in_ok-walk_tree.ensures.same_number ∙ so_far.same_number;
      reads = if_both held (λ image is before after. omega arith) so_far.reads
          (subst (λ o. IfSome o (λ image. (g.D.Device.state c.next.new.dev).reads + length (cursor_nodes 8 image c.next.new.self)
          ≤ (g.D.Device.state c.loop-waiting.dev).reads + length (cursor_nodes 8 image c.loop-waiting.devices))) so_far.kept.held c.in_ok-root.ensures.reads);
      kept = only_reads_both so_far.kept (only_reads_both c.in_ok-root.ensures.kept c.in_ok-walk_tree.ensures.kept);
      faults = c.in_ok-walk_tree.ensures.faults ∙ (c.in_ok-root.ensures.faults ∙ so_far.faults);
    }
