use Rattle.pd_count.specs.Counted.{count_of}
use Rattle.pd_smwrite.proofs.FreeLemmas.{IsTakenOff}
use Rattle.pd_smwrite.proofs.index.allocated.Given as goal

abbrev pub invariant-loop-i : goal.invariant-loop-i
invariant-loop-i l = IsTakenOff (count_of l.counts) l.counts.size l.i l.allocated
