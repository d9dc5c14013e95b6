use Rattle.pd_grammar.proofs.SpellingLemmas.{spells_one}
use Rattle.pd_grammar.specs.ThinText.{thin, MeansPool}
use Rattle.pd_grammar.proofs.ThinRead.{FitsLine, Placed}
use Rattle.pd_grammar.proofs.ThinLaws.{thin_language}
use Rattle.pd_grammar.proofs.laws.thin_text_has_one_meaning.Goals as goal

pub returns : goal.returns
returns c = spells_one thin MeansPool FitsLine Placed thin_language
