use Rattle.std.proofs.Common.{◌≡◌, ℕ, ◌<◌, List, IfSome, length, get_or, false, not, ◌&&◌, ◌||◌, nat_eq, subst, ◌∙◌}
use Rattle.std.proofs.lemmas.Option.{IfSome_then}
use Rattle.pd_image.proofs.CrashLemmas.{only_reads_both}
use Rattle.pd_laid.specs.CacheRoots.{has_child}
use Rattle.pd_tree.proofs.NextLemmas.{if_both}
use Rattle.pd_salvage_cache.proofs.FullerLemmas.{marked_more, marked_same}
use Rattle.pd_salvage_cache.proofs.candidates.mark_all.Goals as goal
use Rattle.pd_salvage_cache.proofs.candidates.mark_all.Goals.{then-words-place-ne0+in_ok-mark_from, else-words-place-ne0}

pub loop-place-preserved : goal.loop-place-preserved
loop-place-preserved g c =
    let inv = c.loop-place.invariant in
    let words : List ℕ = c.args.words.now in
    let place = c.loop-place.place in
    let old = c.loop-place.marks in
    let held = (g.D.Device.state c.args.dev.now).held in
    elim c.if-words-place-ne0.branch [
      | then-words-place-ne0+in_ok-mark_from w ↦
          let h = w.in_ok-mark_from.ensures in
          let new = w.mark_from.new.marks in
          let marks = subst (λ o. IfSome o (λ image. (d : ℕ) → d < length old → get_or new d false ≡ (get_or old d false || (not (nat_eq place d) && has_child image place d)))) inv.kept.held h.marks in
          rw (w.marks-is, w.dev-is)
          (record {
            marked = if_both held (λ image held_is before more. marked_more image words place old before new w.if-words-place-ne0.true h.number more) inv.marked marks;
            number = h.number ∙ inv.number;
            kept = only_reads_both inv.kept h.kept;
            faults = h.faults ∙ inv.faults;
          })
      | else-words-place-ne0 w ↦
          rw (w.marks-is, w.dev-is)
          (record {
            marked = IfSome_then held inv.marked (λ image before. marked_same image words place old before w.if-words-place-ne0.false);
            number = inv.number;
            kept = inv.kept;
            faults = inv.faults;
          })
    ]
