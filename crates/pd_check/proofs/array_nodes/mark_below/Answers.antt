use Rattle.std.proofs.Common.{◌+◌, drop, ap, ◌∙◌}
use Rattle.pd_settle.specs.Looking.{blocks_of_edges}
use Rattle.pd_check.specs.declared.array_marks.ArrayMark.{ArrayMark}
use Rattle.pd_check.specs.Arrays.{join, joined}
use Rattle.pd_check.specs.Arrays.{mark_at}
use Rattle.pd_check.proofs.ArrayMarkLemmas.{joined_more}
use Rattle.pd_check.proofs.array_nodes.mark_below.Goals as goal

pub loop-i-preserved : goal.loop-i-preserved
loop-i-preserved g c =
    let cs = blocks_of_edges ((g.F.Format.contents c.args.format.now).edges c.args.role c.args.block.now.0) in
    let marks = mark_at c.args.marks.now in
    ap (λ (m : ArrayMark). joined c.args.most marks m (drop (c.loop-i.i + 1) cs)) (c.join-mark.ensures ∙ ap (join c.args.most c.loop-i.mark) c.get.ensures)
    ∙ joined_more c.args.most marks c.loop-i.mark _ cs c.loop-i.i c.named_at-named.result c.named_at-named.ensures c.loop-i.invariant
