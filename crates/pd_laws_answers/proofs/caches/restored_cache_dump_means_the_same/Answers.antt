use Rattle.std.proofs.lemmas.Option.{IfSome_then}
use Rattle.pd_kinds.specs.Meaning.{cache_meaning}
use Rattle.pd_grammar.specs.CacheText.{cache_need, IsCacheVerdict}
use Rattle.pd_grammar.specs.CacheText.{SpellsCache, text_of_cache}
use Rattle.pd_grammar.specs.Early.{is_cache_early}
use Rattle.pd_laid.specs.LaidCache.{laid_cache}
use Rattle.pd_laws_answers.specs.Exact.{IsCleanCacheIn}
use Rattle.pd_laws_answers.proofs.Restored.{cache_laws}
use Rattle.pd_laws_answers.proofs.Restored.{dump_restored, dump_same}
use Rattle.pd_laws_answers.proofs.caches.restored_cache_dump_means_the_same.Goals as goal

pub returns-clause-restored : goal.returns-clause-restored
returns-clause-restored c version image base file path before after status asked dump answered none =
    let m = cache_meaning image in
    let spells = c.cache_text_spells.ensures.spells m (c.sound_caches_are_lawful.ensures image dump.is dump.sound) in
    let accepted = c.cache_text_is_accepted_where_there_is_room.ensures in
    dump_restored (IsCacheVerdict version) (is_cache_early version) (λ n room. laid_cache n version room) SpellsCache (cache_need version) (IsCleanCacheIn version)
    (cache_laws version asked (c.cache_text_has_one_verdict.ensures.one version) (accepted.no_room version) c.laid_cache_is_clean.ensures.clean c.laid_cache_is_clean.ensures.version)
    file path before after (text_of_cache m) m base dump.text dump.held spells (accepted.accepted version) dump.room status answered none

pub returns-clause-same : goal.returns-clause-same
returns-clause-same c version image base file path before after asked dump answered =
    let m = cache_meaning image in
    let spells = c.cache_text_spells.ensures.spells m (c.sound_caches_are_lawful.ensures image dump.is dump.sound) in
    IfSome_then after.output.held
    (dump_same SpellsCache (IsCleanCacheIn version) before after (text_of_cache m) m base dump.text dump.held spells c.cache_text_has_one_meaning.ensures
    (c.restored_cache_is_clean.ensures version file path before after asked answered))
    (λ restored is. (is.cache.means, is.version_is))
