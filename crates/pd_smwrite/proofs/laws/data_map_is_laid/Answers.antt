use Rattle.pd_smwrite.proofs.MapLemmas.{pool_written, pool_root}
use Rattle.pd_smwrite.proofs.laws.data_map_is_laid.Goals as goal

pub returns-clause-written : goal.returns-clause-written
returns-clause-written c = pool_written

pub returns-clause-root : goal.returns-clause-root
returns-clause-root c = pool_root
