use Rattle.pd_grammar.specs.CacheText.{cache_need, IsCacheVerdict}
use Rattle.pd_grammar.specs.CacheText.{SpellsCache}
use Rattle.pd_grammar.specs.Early.{is_cache_early}
use Rattle.pd_laid.specs.LaidCache.{laid_cache}
use Rattle.pd_laws_answers.specs.Exact.{IsCleanCacheIn}
use Rattle.pd_laws_answers.proofs.Restored.{cache_laws}
use Rattle.pd_laws_answers.proofs.Restored.{holds_of_text}
use Rattle.pd_laws_answers.proofs.caches.restored_cache_is_clean.Goals as goal

pub returns : goal.returns
returns c version file path before after asked =
    let accepted = c.cache_text_is_accepted_where_there_is_room.ensures in
    holds_of_text (IsCacheVerdict version) (is_cache_early version) (λ m room. laid_cache m version room) SpellsCache (cache_need version) (IsCleanCacheIn version)
    (cache_laws version asked (c.cache_text_has_one_verdict.ensures.one version) (accepted.no_room version) c.laid_cache_is_clean.ensures.clean c.laid_cache_is_clean.ensures.version)
    file path before after
