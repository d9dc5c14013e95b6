use Rattle.pd_laws_laid.proofs.CacheNamed.{cache_named_once}
use Rattle.pd_laws_laid.proofs.once.each_block_of_a_cache_is_named_once.Goals as goal

pub returns : goal.returns
returns c = cache_named_once
