use Rattle.std.proofs.Common.{ℕ, ◌^◌, ◌∙◌, sym, refl, arith}
use Rattle.pd_kinds.specs.Node.{puts}
use Rattle.pd_kinds.proofs.FieldLemmas.{row_more, row_all, row_below_more}
use Rattle.pd_node.proofs.write.put_keys.Goals as goal

pub loop-i-init : goal.loop-i-init
unfolding puts
loop-i-init g c = record { row = refl; below = λ k h. absurd (omega arith) }

pub loop-i-preserved : goal.loop-i-preserved
loop-i-preserved g c =
    let items = c.args.items.now in
    let item = c.index-items-i in
    let key = λ (pair : ℕ × g.row.T.Denot). pair.0 in
    let within = c.loop-i-test.true in
    record {
      row = rw (c.put_u64.ensures, c.loop-i.invariant.row) (sym (row_more key c.args.block.now.0 32 8 items c.loop-i.i item.result within));
      below = row_below_more key (2 ^ 64) items c.loop-i.i item.result within (omega (arith, item.element_fits)) c.loop-i.invariant.below;
    }

pub returns : goal.returns
returns g c =
    record {
      row = c.loop-i.invariant.row ∙ row_all (λ (pair : ℕ × g.row.T.Denot). pair.0) c.args.block.now.0 32 8 c.args.items.now c.loop-i.i c.loop-i-test.false;
      below = λ i h. c.loop-i.invariant.below i (omega arith);
    }
