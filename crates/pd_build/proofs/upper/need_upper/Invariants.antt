use Rattle.pd_build.proofs.RowLemmas.{IsCounting}
use Rattle.pd_build.proofs.upper.need_upper.Given as goal

abbrev pub invariant-loop-nodes : goal.invariant-loop-nodes
invariant-loop-nodes l = IsCounting l.fn.leaves l.nodes l.need

abbrev pub decreases-loop-nodes : goal.decreases-loop-nodes
decreases-loop-nodes l = l.nodes
