use Rattle.pd_laws_laid.proofs.PoolCase.{data_counts_are, data_overflows_are, laid_need, map_place, timed_need}
use Rattle.pd_laws_laid.proofs.shared.lawful_pool_takes_its_need.Goals as goal

pub returns-clause-number : goal.returns-clause-number
returns-clause-number c = λ m n lawful. laid_need m lawful n

pub returns-clause-place : goal.returns-clause-place
returns-clause-place c = λ m n lawful. map_place m lawful n

pub returns-clause-counts : goal.returns-clause-counts
returns-clause-counts c = data_counts_are

pub returns-clause-overflows : goal.returns-clause-overflows
returns-clause-overflows c = data_overflows_are

pub returns-clause-thin : goal.returns-clause-thin
returns-clause-thin c = timed_need
