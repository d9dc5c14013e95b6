use Rattle.pd_laws_answers.proofs.CacheRepaired.{saved_cache_lawful}
use Rattle.pd_laws_answers.proofs.caches.saved_caches_are_lawful.Goals as goal

pub returns : goal.returns
returns c = saved_cache_lawful c.saved_entries_are_lawful.ensures
