use Rattle.pd_laws_answers.proofs.Repaired.{holds_salvage}
use Rattle.pd_laws_answers.proofs.repairs.repaired_pool_is_clean.Goals as goal

pub returns : goal.returns
returns c = holds_salvage c.saved_pools_are_lawful.ensures c.laid_pool_is_clean.ensures.clean
