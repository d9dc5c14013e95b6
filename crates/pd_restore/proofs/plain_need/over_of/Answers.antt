use Rattle.std.proofs.Common.{◌∙◌}
use Rattle.pd_laid.specs.Shape.{pool_of}
use Rattle.pd_grammar.specs.Need.{mapped_data}
use Rattle.pd_salvage.specs.SavedShape.{held_shape}
use Rattle.pd_restore.proofs.SavedNeedLemmas.{over_all}
use Rattle.pd_restore.proofs.plain_need.over_of.Goals as goal

pub returns : goal.returns
returns c =
    let h = c.args.saved.now in
    c.over.ensures ∙ over_all c.in_ok-counted.counted (mapped_data (pool_of (held_shape h))) h.head.blocks c.in_ok-counted.ensures.size c.in_ok-counted.ensures.counted
