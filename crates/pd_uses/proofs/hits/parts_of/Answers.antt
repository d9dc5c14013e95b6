use Rattle.std.proofs.Common.{take}
use Rattle.std.proofs.lemmas.List.{take_more}
use Rattle.pd_uses.proofs.HitLemmas.{no_parts, parts_more}
use Rattle.pd_uses.proofs.hits.parts_of.Goals as goal

pub loop-leaf-init : goal.loop-leaf-init
loop-leaf-init c = rw c.in_ok-parts.ensures.items (no_parts c.args.part)

pub loop-leaf-preserved : goal.loop-leaf-preserved
loop-leaf-preserved c =
    let leaves = c.args.leaves.now in
    let i = c.loop-leaf.leaf-index in
    let leaf = c.leaf-item.result in
    rw (take_more leaves i leaf c.loop-leaf-test.true, ← c.leaf-item.is, c.in_ok-push.ensures.items)
    (parts_more c.args.part (take i leaves) c.loop-leaf.parts.items leaf c.in_ok-part_of.field-0 c.in_ok-part_of.ensures c.loop-leaf.invariant)
