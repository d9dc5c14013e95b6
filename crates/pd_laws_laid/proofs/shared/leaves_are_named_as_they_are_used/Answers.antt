use Rattle.pd_laws_laid.proofs.PoolNames.{leaves_before_map}
use Rattle.pd_laws_laid.proofs.ShapeNeed.{allocated_named, counts_named, overflow_named}
use Rattle.pd_laws_laid.proofs.shared.leaves_are_named_as_they_are_used.Goals as goal

pub returns-clause-named : goal.returns-clause-named
returns-clause-named c = counts_named

pub returns-clause-overflow : goal.returns-clause-overflow
returns-clause-overflow c = overflow_named

pub returns-clause-allocated : goal.returns-clause-allocated
returns-clause-allocated c = allocated_named

pub returns-clause-behind : goal.returns-clause-behind
returns-clause-behind c = leaves_before_map
