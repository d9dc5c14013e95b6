use Rattle.std.proofs.Common.{◌≡◌, ℕ, ◌+◌, ◌<◌, ◌≤◌, Bool, not, ◌++◌, ◌∷◌, [], cond, Some, IfSome, sym, ◌∙◌, ap, subst, arith}
use Rattle.std.specs.List.{AllByRecursion}
use Rattle.pd_kinds.specs.Graph.{is_outside}
use Rattle.pd_kinds.proofs.ResultLemmas.{if_both}
use Rattle.pd_value.specs.declared.thin.Root.{Root}
use Rattle.pd_image.proofs.CrashLemmas.{only_reads_both}
use Rattle.pd_tree.specs.Cursor.{root_of}
use Rattle.pd_tree.specs.Stack.{IsNext}
use Rattle.pd_salvage.specs.Cursor.{saved_least, saved_left}
use Rattle.pd_damaged.specs.Given.{AscendFrom, ids_left}
use Rattle.pd_damaged.proofs.ListedLemmas.{ids_ascend, ids_below_next, ids_more}
use Rattle.pd_damaged.proofs.listing.ids_of.Goals as goal

pub tops-preserved : goal.tops-preserved
tops-preserved g c =
    let nr = c.args.nr in
    let inv = c.tops.invariant in
    let read = c.in_ok-id.ensures in
    let id = c.in-Some.id in
    let root = c.in-Some.root in
    let ids = c.tops.ids.items in
    let new = c.push_if.new.found.items in
    let outside = c.is_outside.result in
    let added : new ≡ ids ++ cond (not outside) (id ∷ []) [] = c.in_ok-push_if-in-Some.ensures in
    let more : new ≡ ids ++ cond (not (is_outside nr root.0)) (id ∷ []) [] = added ∙ ap (λ (b : Bool). ids ++ cond (not b) (id ∷ []) []) c.is_outside.ensures in
    let order : (saved_least c.tops.tops ≤ id) × (saved_least c.next.new.self ≡ id + 1) = rw c.in-Some.is at read.ascends in
    record {
      ids = if_both (g.D.Device.state c.args.dev.now).held
          (λ image next before.
          ids_more nr ids new (id, root) (saved_left 8 root_of image c.tops.tops) (saved_left 8 root_of image c.next.new.self) (ids_left nr (saved_left 8 root_of image c.args.tops.now))
          next more before)
          (subst (λ o. IfSome o (λ image. IsNext {X = ℕ × Root} (Some (id, root)) (saved_left 8 root_of image c.tops.tops) (saved_left 8 root_of image c.next.new.self)))
          inv.kept.held (rw c.in-Some.is at read.next))
          inv.ids;
      ascend = subst (AscendFrom 0) (sym added) (ids_ascend 0 (saved_least c.tops.tops) id ids (not outside) (omega arith) order.0 inv.ascend inv.below);
      below = subst (AllByRecursion (λ (x : ℕ). x < saved_least c.next.new.self)) (sym added)
          (ids_below_next (saved_least c.tops.tops) id (saved_least c.next.new.self) ids (not outside) order.0 order.1 inv.below);
      room = read.room ∙ inv.room;
      kept = only_reads_both inv.kept read.kept;
      faults = read.faults ∙ inv.faults;
    }
