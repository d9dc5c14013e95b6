use Rattle.pd_pool_dumps.proofs.RunLemmas.{runs_one, runs_same}
use Rattle.pd_pool_dumps.proofs.leaf_lines.add_run.Goals as goal

pub returns-in-Some-clause-prints : goal.returns-in-Some-clause-prints
returns-in-Some-clause-prints g c = λ held whole left is.
    runs_one held c.in-Some.run' c.add_line.result (rw c.map_line.ensures at c.add_line.ensures.prints) (rw c.map_line.ensures at c.add_line.ensures.counted) (rw c.in-Some.is at is)

pub returns-in-None-clause-prints : goal.returns-in-None-clause-prints
returns-in-None-clause-prints g c = λ held whole left is. record { outcome = runs_same held _ _ (rw c.in-None.is at is) }
