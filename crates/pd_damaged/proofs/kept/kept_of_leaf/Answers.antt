use Rattle.std.proofs.Common.{◌≡◌, ℕ, ◌∙◌, ap₂, arith}
use Rattle.pd_kinds.specs.Node.{entry_count}
use Rattle.pd_value.specs.declared.thin.BlockTime.{BlockTime}
use Rattle.pd_meaning_thin.specs.Runs.{block_time_of}
use Rattle.pd_tree.specs.Cursor.{item_of}
use Rattle.pd_measures.specs.Measured.{entry_of}
use Rattle.pd_damaged.proofs.KeptLemmas.{leaf_all, leaf_more}
use Rattle.pd_damaged.proofs.kept.kept_of_leaf.Goals as goal

pub returns : goal.returns
returns c =
    let last : c.loop-i.i ≡ entry_count 8 c.args.block.now.0 = omega (arith, c.loop-i.auto.i-end, c.loop-i-test.false, c.entries-i-end.ensures) in
    leaf_all c.args.data_blocks c.args.block.now.0 c.loop-i.i c.loop-i.sum c.loop-i.invariant last

pub loop-i-preserved : goal.loop-i-preserved
loop-i-preserved c =
    let block = c.args.block.now.0 in
    let i = c.loop-i.i in
    let same : (c.key.result, c.value-mapping.result) ≡ item_of block_time_of (entry_of 8 block i) =
    ap₂ (λ (k : ℕ) (v : BlockTime). (k, v)) c.key.ensures c.value-mapping.ensures.value in
    c.counted-sum.ensures
    ∙ leaf_more c.args.data_blocks block i c.loop-i.sum (c.key.result, c.value-mapping.result) c.loop-i.invariant same
