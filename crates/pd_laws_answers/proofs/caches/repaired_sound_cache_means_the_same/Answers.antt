use Rattle.std.proofs.Common.{inl, refl}
use Rattle.pd_laws_answers.specs.Saved.{no_roots}
use Rattle.pd_laws_answers.proofs.CacheRepaired.{cache_known, cache_repaired, cache_same}
use Rattle.pd_laws_answers.proofs.caches.repaired_sound_cache_means_the_same.Goals as goal

pub returns-clause-repaired : goal.returns-clause-repaired
returns-clause-repaired c version image base from to before after status sound =
    cache_repaired c.sound_caches_are_saved.ensures.saved version image base from to before after sound status

pub returns-clause-same : goal.returns-clause-same
returns-clause-same c version image base from to before after asked sound answered =
    cache_same c.sound_caches_are_saved.ensures.saved version image base from to before after sound
    (c.repaired_cache_is_clean.ensures.made version no_roots from to before after 0 asked answered (inl refl))

pub returns-clause-known : goal.returns-clause-known
returns-clause-known c version image base from to before after sound answered =
    cache_known c.sound_caches_are_saved.ensures.saved version image base from to before after sound (c.sound_caches_are_saved.ensures.known image sound.is.bytes sound.sound)
    (c.repaired_cache_is_clean.ensures.line version no_roots from to before after answered)
