use Rattle.std.proofs.Common.{◌+◌, arith}
use Rattle.pd_graph.specs.Notes.{size_of}
use Rattle.pd_measures.proofs.NodeLemmas.{count_most}
use Rattle.pd_measures.proofs.measures.measure_trees.Goals as goal

pub returns-in_err-measure_level-clause-reads : goal.returns-in_err-measure_level-clause-reads
returns-in_err-measure_level-clause-reads g c =
    let nr = size_of c.args.notes.now in
    omega (arith, c.loop-height.invariant.reads, c.in_err-measure_level.ensures.reads, count_most c.args.notes.now (c.loop-height.height + 1) 0 nr)

pub returns-clause-reads : goal.returns-clause-reads
returns-clause-reads g c =
    let nr = size_of c.args.notes.now in
    omega (arith, c.loop-height.invariant.reads, count_most c.args.notes.now c.loop-height.height 0 nr)
