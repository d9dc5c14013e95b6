use Rattle.std.proofs.Common.{[], ◌∙◌, ◌++◌}
use Rattle.pd_restore.specs.ShapeNeed.{data_of_runs}
use Rattle.pd_restore.proofs.SavedNeedLemmas.{over_all}
use Rattle.pd_restore.proofs.shape_need.over_of.Goals as goal

pub returns : goal.returns
returns c =
    let runs = data_of_runs c.args.runs.now in
    c.over.ensures ∙ over_all c.add_runs-2.new.self (runs ++ data_of_runs c.args.others.now) c.args.blocks
    (c.in_ok-add_runs-2.ensures.size ∙ (c.in_ok-add_runs.ensures.size ∙ c.in_ok-counted.ensures.size))
    (c.in_ok-add_runs-2.ensures.listed runs (c.in_ok-add_runs.ensures.listed [] c.in_ok-counted.ensures.none))
