use Rattle.pd_laws_laid.proofs.MapLemmas.{stored_counts, named_overflow, ones_overflow, ones_allocated}
use Rattle.pd_laws_laid.proofs.once.ones_are_stored.Goals as goal

pub returns-clause-counts : goal.returns-clause-counts
returns-clause-counts c = stored_counts

pub returns-clause-overflow : goal.returns-clause-overflow
returns-clause-overflow c = named_overflow

pub returns-clause-ones_overflow : goal.returns-clause-ones_overflow
returns-clause-ones_overflow c = λ n end. ones_overflow end n

pub returns-clause-ones_allocated : goal.returns-clause-ones_allocated
returns-clause-ones_allocated c = λ n end. ones_allocated end n
