use Rattle.std.proofs.Common.{◌∙◌, [], ◌∷◌, map, arith}
use Rattle.std.specs.List.{range_with_len}
use Rattle.std.proofs.lemmas.List.{append_assoc}
use Rattle.std.proofs.lemmas.List.FromFn.{map-range_with_len_more}
use Rattle.pd_kinds.specs.Node.{child_at}
use Rattle.pd_meaning_thin.proofs.walk.add_children.Goals as goal

pub loop-i-preserved : goal.loop-i-preserved
loop-i-preserved c =
    let block = c.args.block.now.0 in
    let i = c.loop-i.i in
    let taken = map (child_at block) (range_with_len 0 i) in
    c.in_ok-push.ensures.items
    ∙ (rw (c.loop-i.invariant, c.child.ensures, map-range_with_len_more (child_at block) 0 i i (omega arith))
    (append_assoc c.args.waiting.now.items taken (child_at block i ∷ [])))
