use Rattle.pd_grammar.proofs.CacheLaws.{cache_text_spells, one_cache_text}
use Rattle.pd_grammar.proofs.laws.cache_text_spells.Goals as goal

pub returns : goal.returns
returns c = record { spells = cache_text_spells; alone = one_cache_text }
