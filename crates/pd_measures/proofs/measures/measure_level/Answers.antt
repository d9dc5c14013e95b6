use Rattle.std.proofs.Common.{◌+◌, ◌≤◌, arith}
use Rattle.pd_graph.specs.Notes.{size_of}
use Rattle.pd_measures.proofs.NodeLemmas.{count_grows, count_next}
use Rattle.pd_measures.proofs.measures.measure_level.Goals as goal

pub returns-in_err-measure_node-clause-reads : goal.returns-in_err-measure_node-clause-reads
returns-in_err-measure_node-clause-reads g c =
    let nr = size_of c.args.notes.now in
    let less : c.loop-b.b + 1 ≤ nr = omega (arith, c.loop-b-test.true, c.nr-b-end.ensures.number) in
    omega (
      arith,
      c.loop-b.invariant.reads,
      c.in_err-measure_node.ensures.reads,
      count_grows c.args.notes.now c.args.height (c.loop-b.b + 1) nr nr less,
      count_next c.args.notes.now c.args.height nr nr (omega arith),
    )

pub returns-clause-reads : goal.returns-clause-reads
returns-clause-reads g c =
    let nr = size_of c.args.notes.now in
    let all : nr ≤ c.loop-b.b = omega (arith, c.loop-b-test.false, c.nr-b-end.ensures.number) in
    omega (arith, c.loop-b.invariant.reads, count_next c.args.notes.now c.args.height c.loop-b.b nr all)
