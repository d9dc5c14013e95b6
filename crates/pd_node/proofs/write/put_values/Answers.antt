use Rattle.std.proofs.Common.{ℕ, sym, refl}
use Rattle.pd_kinds.specs.Node.{puts}
use Rattle.pd_kinds.proofs.FieldLemmas.{row_more}
use Rattle.pd_node.proofs.write.put_values.Goals as goal

pub loop-i-init : goal.loop-i-init
unfolding puts
loop-i-init g c = refl

pub loop-i-preserved : goal.loop-i-preserved
loop-i-preserved g c =
    let step = row_more (λ (item : ℕ × g.row.V.Denot). g.V.Value.code item.1) c.args.block.now.0 c.args.at g.V.Value.SIZE c.args.items.now c.loop-i.i c.index-items-i.result c.loop-i-test.true in
    rw (c.put_value.ensures, c.SIZE.ensures, c.loop-i.invariant) (sym step)
