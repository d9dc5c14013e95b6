use Rattle.pd_smwrite.specs.Map.{CountsOwn}
use Rattle.pd_smwrite.proofs.meta.count_own.Given as goal

abbrev pub invariant-loop-i : goal.invariant-loop-i
invariant-loop-i l = CountsOwn l.place l.i l.initial.counts l.counts
