use Rattle.pd_grammar.proofs.SpellingLemmas.{spelled_if_none, none_if_spelled}
use Rattle.pd_grammar.specs.ThinText.{thin, MeansPool}
use Rattle.pd_grammar.proofs.ThinRead.{FitsLine, Placed}
use Rattle.pd_grammar.proofs.ThinLaws.{thin_language}
use Rattle.pd_grammar.proofs.laws.thin_text_unless_refused.Goals as goal

pub returns : goal.returns
returns c = λ text. (spelled_if_none thin MeansPool FitsLine Placed thin_language text, λ s. none_if_spelled thin MeansPool FitsLine Placed thin_language text s.0 s.1)
