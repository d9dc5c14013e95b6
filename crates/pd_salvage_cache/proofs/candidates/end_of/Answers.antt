use Rattle.std.proofs.Common.{◌≡◌, ℕ, ◌∷◌, IfSome, None, ap, sym, ◌∙◌, subst}
use Rattle.pd_kinds.proofs.ResultLemmas.{none_of}
use Rattle.pd_image.proofs.CrashLemmas.{only_reads_both}
use Rattle.pd_laid.specs.Salvage.{salvaged_entries}
use Rattle.pd_value.specs.declared.thin.Root.{Root}
use Rattle.pd_tree.specs.Cursor.{root_of}
use Rattle.pd_tree.specs.Stack.{IsNext}
use Rattle.pd_tree.proofs.NextLemmas.{if_both}
use Rattle.pd_salvage.specs.Cursor.{saved_left}
use Rattle.pd_salvage_cache.proofs.FullerLemmas.{end_from, ends_same}
use Rattle.pd_salvage_cache.proofs.candidates.end_of.Goals as goal

pub loop-key-preserved : goal.loop-key-preserved
loop-key-preserved g c =
    let before = c.loop-key.invariant in
    let old = c.loop-key.cursor in
    let new = c.next.new.self in
    let end = c.loop-key.end in
    let taken = subst (λ o. IfSome o (λ image. saved_left 8 root_of image old ≡ (c.in-Some.key, c.in-Some.field-0-1) ∷ saved_left 8 root_of image new)) before.kept.held
    (rw c.in-Some.is at c.in_ok-key.ensures.next) in
    record {
      end = if_both (g.D.Device.state c.args.dev.now).held
          (λ image held so_far next. rw c.max-end.ensures (sym (ap (end_from end) next) ∙ so_far))
          before.end taken;
      room = c.next.ensures.room ∙ before.room;
      kept = only_reads_both before.kept c.next.ensures.kept;
      faults = c.in_ok-key.ensures.faults ∙ before.faults;
    }

pub returns-clause-end : goal.returns-clause-end
returns-clause-end g c =
    let before = c.loop-key.invariant in
    if_both (g.D.Device.state c.args.dev.now).held
    (λ image held so_far none.
    sym (ap (end_from c.loop-key.end) none.0) ∙ (so_far ∙ (ap (end_from 0) (c.restart.ensures.left image) ∙ ends_same 0 (salvaged_entries 8 c.args.nr image c.args.root))))
    before.end
    (subst (λ o. IfSome o (λ image. IsNext {X = ℕ × Root} None (saved_left 8 root_of image c.loop-key.cursor) (saved_left 8 root_of image c.next.new.self))) before.kept.held
    (rw (none_of c.in_ok-key.field-0 c.in_default.not-Some) at c.in_ok-key.ensures.next))
