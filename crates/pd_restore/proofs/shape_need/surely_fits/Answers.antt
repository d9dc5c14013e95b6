use Rattle.pd_restore.proofs.MostOverLemmas.{at_most}
use Rattle.pd_restore.proofs.ShapePartLemmas.{need_fits}
use Rattle.pd_restore.proofs.shape_need.surely_fits.Goals as goal

pub returns : goal.returns
returns c sure =
    let h = c.args.saved.now in
    need_fits h c.in-Some-parts_of.parts c.in-Some.over c.args.room c.need_of.result c.in-Some-parts_of.ensures
    (rw (c.leaf_runs.ensures, c.runs.ensures) at (c.in-Some.ensures h.head.blocks)) c.need_of.ensures (at_most c.need_of.result c.args.room sure) c.requires
