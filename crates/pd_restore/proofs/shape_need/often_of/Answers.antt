use Rattle.std.proofs.Common.{◌∙◌}
use Rattle.std.specs.List.{flat_map}
use Rattle.pd_restore.specs.ShapeNeed.{uses_of_saved}
use Rattle.pd_restore.proofs.SavedNeedLemmas.{over_all}
use Rattle.pd_restore.proofs.shape_need.often_of.Goals as goal

pub returns : goal.returns
returns c =
    let counted = c.in_ok-counted.counted in
    c.over.ensures ∙ over_all counted (flat_map uses_of_saved c.args.pieces.now) c.args.leaves c.in_ok-counted.ensures.size c.in_ok-counted.ensures.listed
