use Rattle.pd_grammar.proofs.SpellingLemmas.{spelled_if_none, none_if_spelled}
use Rattle.pd_grammar.specs.EraText.{era, MeansEra}
use Rattle.pd_grammar.proofs.EraRead.{FitsLine, Placed}
use Rattle.pd_grammar.proofs.EraLaws.{era_language}
use Rattle.pd_grammar.proofs.laws.era_text_unless_refused.Goals as goal

pub returns : goal.returns
returns c = λ text. (spelled_if_none era MeansEra FitsLine Placed era_language text, λ s. none_if_spelled era MeansEra FitsLine Placed era_language text s.0 s.1)
