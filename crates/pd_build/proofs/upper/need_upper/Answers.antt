use Rattle.std.proofs.Common.{arith}
use Rattle.pd_build.proofs.RowLemmas.{counting_start, counting_next, counting_end}
use Rattle.pd_build.proofs.upper.need_upper.Goals as goal

pub loop-nodes-init : goal.loop-nodes-init
loop-nodes-init c = counting_start c.args.leaves c.requires (omega arith)

pub loop-nodes-preserved : goal.loop-nodes-preserved
loop-nodes-preserved c = let is = c.parts-nodes.ensures in rw is (counting_next c.loop-nodes.invariant c.loop-nodes-test.true)

pub returns-clause-count : goal.returns-clause-count
returns-clause-count c = counting_end c.loop-nodes.invariant (omega arith)
