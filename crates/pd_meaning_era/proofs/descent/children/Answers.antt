use Rattle.std.proofs.Common.{◌∙◌, refl, arith}
use Rattle.std.proofs.lemmas.List.FromFn.{map-range_with_len_more}
use Rattle.pd_kinds.specs.Node.{child_at}
use Rattle.pd_meaning_era.proofs.descent.children.Goals as goal

pub loop-i-preserved : goal.loop-i-preserved
loop-i-preserved c =
    c.in_ok-push.ensures.items
    ∙ rw (c.loop-i.invariant, c.child.ensures, map-range_with_len_more (child_at c.args.block.now.0) 0 c.loop-i.i c.loop-i.i (omega arith)) refl
