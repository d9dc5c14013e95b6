use Rattle.pd_laws_answers.proofs.CacheRepaired.{cache_leaves}
use Rattle.pd_laws_answers.proofs.caches.crashed_repair_leaves_no_other_cache.Goals as goal

pub returns : goal.returns
returns c = λ version named from to before after status asked.
    cache_leaves version named asked c.saved_caches_are_lawful.ensures c.laid_cache_is_clean.ensures.clean c.laid_cache_is_clean.ensures.version from to before after status
