use Rattle.pd_grammar.proofs.SpellingLemmas.{some_verdict, one_verdict}
use Rattle.pd_grammar.specs.ThinText.{thin, MeansPool}
use Rattle.pd_grammar.specs.Need.{thin_need_so_far}
use Rattle.pd_grammar.proofs.ThinRead.{FitsLine, Placed}
use Rattle.pd_grammar.proofs.ThinLaws.{thin_language}
use Rattle.pd_grammar.proofs.laws.thin_text_has_one_verdict.Goals as goal

pub returns : goal.returns
returns c = record {
  some = λ text room. some_verdict thin MeansPool FitsLine Placed thin_language (thin_need_so_far room) text room;
  one = λ text room. one_verdict thin MeansPool FitsLine Placed thin_language (thin_need_so_far room) text room;
}
