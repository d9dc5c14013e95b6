use Rattle.pd_scan.specs.Partners.{AreBySum}
use Rattle.pd_scan.proofs.partners.partners_by_sum.Given as goal

abbrev pub invariant-loop-b : goal.invariant-loop-b
invariant-loop-b l = AreBySum l.details l.measures l.b l.table
