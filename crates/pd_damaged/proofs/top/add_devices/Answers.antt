use Rattle.std.proofs.Common.{◌≡◌, ℕ, Some, fold, IfSome, subst, ◌∙◌}
use Rattle.pd_value.specs.declared.thin.Root.{Root}
use Rattle.pd_image.proofs.CrashLemmas.{only_reads_both}
use Rattle.pd_tree.specs.Cursor.{root_of}
use Rattle.pd_tree.specs.Stack.{IsNext}
use Rattle.pd_salvage.specs.Cursor.{saved_left}
use Rattle.pd_damaged.specs.Known.{AreRight, data_blocks_of, meta_blocks_of}
use Rattle.pd_damaged.specs.Top.{device_counted, no_devices}
use Rattle.pd_damaged.proofs.TopLemmas.{tops_more}
use Rattle.pd_damaged.proofs.top.add_devices.Goals as goal

pub tops-preserved : goal.tops-preserved
tops-preserved g c =
    let held = (g.D.Device.state c.args.dev.now).held in
    let start = c.args.remains.now in
    let now = c.tops.remains in
    let inv = c.tops.invariant in
    let read = c.in_ok-root.ensures in
    let done = c.in_ok-sum-in-Some.ensures in
    let id = c.in-Some.field-0-0 in
    let root = c.in-Some.root in
    let sum = c.tops.sum in
    let new = c.in_ok-sum-in-Some.sum in
    record {
      sum =
          tops_more held start now (λ image. saved_left 8 root_of image c.tops.tops) (λ image. saved_left 8 root_of image c.next.new.self)
          (λ image. fold (device_counted (meta_blocks_of start) (data_blocks_of start) image) no_devices (saved_left 8 root_of image c.args.tops.now)) sum new id root
          inv.same inv.sum
          (subst (λ o. IfSome o (λ image. IsNext {X = ℕ × Root} (Some (id, root)) (saved_left 8 root_of image c.tops.tops) (saved_left 8 root_of image c.next.new.self)))
          inv.kept.held (rw c.in-Some.is at read.next))
          (subst (λ o. IfSome o (λ image. AreRight image now → (i : ℕ) → new ≡ device_counted (meta_blocks_of now) (data_blocks_of now) image sum (i, root)))
          (read.kept.held ∙ inv.kept.held) done.sum);
      same = done.same ∙ inv.same;
      room = read.room ∙ inv.room;
      kept = only_reads_both inv.kept (only_reads_both read.kept done.kept);
      faults = done.faults ∙ (read.faults ∙ inv.faults);
    }
