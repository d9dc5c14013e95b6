use Rattle.pd_laws_laid.proofs.PoolCase.{pool_named_once}
use Rattle.pd_laws_laid.proofs.shared.each_block_is_named_once.Goals as goal

pub returns : goal.returns
returns c = pool_named_once
