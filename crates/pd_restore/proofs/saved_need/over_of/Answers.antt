use Rattle.std.proofs.Common.{◌∙◌}
use Rattle.pd_grammar.specs.Need.{mapped_data}
use Rattle.pd_salvage.specs.Saved.{pool_of}
use Rattle.pd_restore.proofs.SavedNeedLemmas.{over_all}
use Rattle.pd_restore.proofs.saved_need.over_of.Goals as goal

pub returns : goal.returns
returns c =
    let saved = c.args.saved.now in
    c.over.ensures ∙ over_all c.in_ok-counted.counted (mapped_data (pool_of saved)) saved.head.blocks c.in_ok-counted.ensures.size c.in_ok-counted.ensures.counted
