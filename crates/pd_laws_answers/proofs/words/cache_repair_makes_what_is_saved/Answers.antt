use Rattle.pd_laws_answers.specs.Saved.{no_roots}
use Rattle.pd_laws_answers.specs.Words.{no_root_words}
use Rattle.pd_laws_answers.proofs.Asked.{answered_for, version_asked}
use Rattle.pd_laws_answers.proofs.CacheWords.{cache_repair_asked}
use Rattle.pd_laws_answers.proofs.words.cache_repair_makes_what_is_saved.Goals as goal

pub returns-clause-made : goal.returns-clause-made
returns-clause-made c word version roots named from to before after status said say is_from is_to ends =
    c.repaired_cache_is_clean.ensures.made version named from to before after status (version_asked word version said)
    (answered_for _ _ status before after (cache_repair_asked word version roots named said say from to is_from is_to) ends)

pub returns-clause-line : goal.returns-clause-line
returns-clause-line c word version roots named from to before after said say is_from is_to ends =
    c.repaired_cache_is_clean.ensures.line version named from to before after (answered_for _ _ 0 before after (cache_repair_asked word version roots named said say from to is_from is_to) ends)

pub returns-clause-known : goal.returns-clause-known
returns-clause-known c word version image base from to before after said is_from is_to sound ends =
    c.repaired_sound_cache_means_the_same.ensures.known version image base from to before after sound
    (answered_for _ _ 0 before after (cache_repair_asked word version no_root_words no_roots said (record { mappings = tt; hints = tt; dirty = tt }) from to is_from is_to) ends)
