use Rattle.pd_grammar.proofs.SpellingLemmas.{spelled_if_none, none_if_spelled}
use Rattle.pd_grammar.specs.CacheText.{cache, MeansCache}
use Rattle.pd_grammar.proofs.CacheRead.{FitsLine, Placed}
use Rattle.pd_grammar.proofs.CacheLaws.{cache_language}
use Rattle.pd_grammar.proofs.laws.cache_text_unless_refused.Goals as goal

pub returns : goal.returns
returns c = λ text. (spelled_if_none cache MeansCache FitsLine Placed cache_language text, λ s. none_if_spelled cache MeansCache FitsLine Placed cache_language text s.0 s.1)
