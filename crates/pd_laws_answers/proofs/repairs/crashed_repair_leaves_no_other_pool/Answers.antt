use Rattle.pd_laws_answers.proofs.Repaired.{leaves_salvage}
use Rattle.pd_laws_answers.proofs.repairs.crashed_repair_leaves_no_other_pool.Goals as goal

pub returns : goal.returns
returns c = leaves_salvage c.saved_pools_are_lawful.ensures c.laid_pool_is_clean.ensures.clean
