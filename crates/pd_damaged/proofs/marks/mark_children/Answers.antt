use Rattle.std.proofs.Common.{ℕ, nat_eq, not, ◌∙◌, ap, arith}
use Rattle.pd_kinds.specs.Node.{child_at}
use Rattle.pd_damaged.proofs.PushLemmas.{marked_push}
use Rattle.pd_damaged.proofs.marks.mark_children.Goals as goal

pub loop-i-preserved : goal.loop-i-preserved
loop-i-preserved g c =
    let block = c.args.block.now.0 in
    let inv = c.loop-i.invariant in
    record {
      marks = λ d small. marked_push (λ (i : ℕ). nat_eq (child_at block i) d) c.loop-i.i _ (not (nat_eq c.args.b d)) _ _ _
          (inv.marks d small)
          (c.mark_child.ensures.marks d (omega (arith, inv.places)))
          (ap (λ (k : ℕ). nat_eq k d) c.child.ensures);
      places = c.mark_child.ensures.places ∙ inv.places;
    }
