use Rattle.pd_laws_answers.proofs.CacheRepaired.{cache_holds, puts_kept}
use Rattle.pd_laws_answers.proofs.caches.repaired_cache_is_clean.Goals as goal

pub returns-clause-made : goal.returns-clause-made
returns-clause-made c version named from to before after status asked =
    cache_holds version named asked c.saved_caches_are_lawful.ensures c.laid_cache_is_clean.ensures.clean c.laid_cache_is_clean.ensures.version from to before after status

pub returns-clause-line : goal.returns-clause-line
returns-clause-line c = puts_kept
