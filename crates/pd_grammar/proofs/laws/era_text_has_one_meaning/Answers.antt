use Rattle.pd_grammar.proofs.SpellingLemmas.{spells_one}
use Rattle.pd_grammar.specs.EraText.{era, MeansEra}
use Rattle.pd_grammar.proofs.EraRead.{FitsLine, Placed}
use Rattle.pd_grammar.proofs.EraLaws.{era_language}
use Rattle.pd_grammar.proofs.laws.era_text_has_one_meaning.Goals as goal

pub returns : goal.returns
returns c = spells_one era MeansEra FitsLine Placed era_language
