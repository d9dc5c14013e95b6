use Rattle.std.proofs.Common.{◌++◌, arith, length-append}
use Rattle.pd_restore.specs.ShapeNeed.{data_of_runs}
use Rattle.pd_restore.proofs.MostOverLemmas.{overflows_few}
use Rattle.pd_restore.proofs.shape_need.most_over.Goals as goal

pub returns : goal.returns
returns c blocks =
    let runs = data_of_runs c.args.runs.now in
    let others = data_of_runs c.args.others.now in
    omega (arith, overflows_few (runs ++ others) blocks, length-append runs others)
