use Rattle.std.proofs.Common.{◌≡◌, ℕ, List, Bool, ◌∷◌, IfSome, None, ap, ◌∙◌, subst}
use Rattle.pd_kinds.proofs.ResultLemmas.{none_of}
use Rattle.pd_image.proofs.CrashLemmas.{only_reads_both}
use Rattle.pd_value.specs.declared.thin.Root.{Root}
use Rattle.pd_tree.specs.Cursor.{cursor_items}
use Rattle.pd_tree.specs.Cursor.{root_of}
use Rattle.pd_tree.specs.Stack.{IsNext}
use Rattle.pd_tree.proofs.NextLemmas.{if_both}
use Rattle.pd_writeback.specs.Room.{marks, names}
use Rattle.pd_writeback.proofs.PlacesLemmas.{marks_next, marks_last}
use Rattle.pd_writeback.proofs.places.mark_named.Goals as goal

pub loop-named-preserved : goal.loop-named-preserved
loop-named-preserved g c =
    let before = c.loop-named.invariant in
    let taken = subst (λ o. IfSome o (λ image. cursor_items 8 root_of image c.loop-named.entries ≡ (c.in-Some.field-0-0, c.in-Some.named) ∷ cursor_items 8 root_of image c.next.new.self)) before.kept.held
    (rw c.in-Some.is at c.in_ok-named.ensures.next) in
    record {
      marked = if_both (g.A.Device.state c.args.meta.now).held
          (λ image held so_far next.
          ap (λ (seen : List Bool). marks seen (names (cursor_items 8 root_of image c.next.new.self))) c.mark.ensures.marked
          ∙ marks_next c.loop-named.seen c.in-Some.field-0-0 c.in-Some.named (cursor_items 8 root_of image c.loop-named.entries) (cursor_items 8 root_of image c.next.new.self) _ so_far next)
          before.marked taken;
      first = c.mark.ensures.first ∙ before.first;
      kept = only_reads_both before.kept c.next.ensures.kept;
      faults = c.in_ok-named.ensures.faults ∙ before.faults;
    }

pub returns-clause-marked : goal.returns-clause-marked
returns-clause-marked g c =
    let before = c.loop-named.invariant in
    if_both (g.A.Device.state c.args.meta.now).held
    (λ image held so_far none. marks_last c.loop-named.seen (cursor_items 8 root_of image c.loop-named.entries) _ so_far none.0)
    before.marked
    (subst (λ o. IfSome o (λ image. IsNext {X = ℕ × Root} None (cursor_items 8 root_of image c.loop-named.entries) (cursor_items 8 root_of image c.next.new.self))) before.kept.held
    (rw (none_of c.in_ok-named.field-0 c.in_default.not-Some) at c.in_ok-named.ensures.next))
