use Rattle.pd_kinds.specs.declared.kind.Stage.TheVariants.{Whole}
use Rattle.pd_meaning_cache.proofs.SoundCache.{blocks_fit}
use Rattle.pd_dumps.proofs.CacheMeaningLemmas.{text_is}
use Rattle.pd_dumps.proofs.laws.given_cache_lines_are_the_text.Goals as goal

pub returns : goal.returns
returns c = λ image bytes none. text_is image none (c.superblocks_lead_to_reached_roots.ensures.cache Whole image tt none) (blocks_fit image bytes) (c.rows_are_the_entries.ensures image bytes none)
