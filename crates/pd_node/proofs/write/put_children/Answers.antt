use Rattle.std.proofs.Common.{ℕ, ◌^◌, ◌∙◌, sym, refl, arith}
use Rattle.pd_kinds.specs.Node.{puts}
use Rattle.pd_kinds.proofs.FieldLemmas.{row_more, row_all, row_below_more}
use Rattle.pd_node.proofs.write.put_children.Goals as goal

pub loop-i-init : goal.loop-i-init
unfolding puts
loop-i-init c = record { row = refl; below = λ k h. absurd (omega arith) }

pub loop-i-preserved : goal.loop-i-preserved
loop-i-preserved c =
    let items = c.args.items.now in
    let child = λ (pair : ℕ × ℕ). pair.1 in
    let within = c.loop-i-test.true in
    record {
      row = rw (c.put_u64.ensures, c.loop-i.invariant.row) (sym (row_more child c.args.block.now.0 c.args.at 8 items c.loop-i.i (0, 0) within));
      below = row_below_more child (2 ^ 64) items c.loop-i.i (0, 0) within (omega (arith, c.loop-i-test.element_fits)) c.loop-i.invariant.below;
    }

pub returns : goal.returns
returns c =
    record {
      row = c.loop-i.invariant.row ∙ row_all (λ (pair : ℕ × ℕ). pair.1) c.args.block.now.0 c.args.at 8 c.args.items.now c.loop-i.i c.loop-i-test.false;
      below = λ i h. c.loop-i.invariant.below i (omega arith);
    }
