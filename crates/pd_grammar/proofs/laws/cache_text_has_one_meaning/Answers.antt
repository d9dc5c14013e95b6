use Rattle.pd_grammar.proofs.SpellingLemmas.{spells_one}
use Rattle.pd_grammar.specs.CacheText.{cache, MeansCache}
use Rattle.pd_grammar.proofs.CacheRead.{FitsLine, Placed}
use Rattle.pd_grammar.proofs.CacheLaws.{cache_language}
use Rattle.pd_grammar.proofs.laws.cache_text_has_one_meaning.Goals as goal

pub returns : goal.returns
returns c = spells_one cache MeansCache FitsLine Placed cache_language
