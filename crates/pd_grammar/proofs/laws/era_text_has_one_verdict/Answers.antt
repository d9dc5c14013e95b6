use Rattle.pd_grammar.proofs.SpellingLemmas.{some_verdict, one_verdict}
use Rattle.pd_grammar.specs.EraText.{era, MeansEra}
use Rattle.pd_grammar.specs.EraText.{era_need_so_far}
use Rattle.pd_grammar.proofs.EraRead.{FitsLine, Placed}
use Rattle.pd_grammar.proofs.EraLaws.{era_language}
use Rattle.pd_grammar.proofs.laws.era_text_has_one_verdict.Goals as goal

pub returns : goal.returns
returns c = record {
  some = λ text room. some_verdict era MeansEra FitsLine Placed era_language (era_need_so_far room) text room;
  one = λ text room. one_verdict era MeansEra FitsLine Placed era_language (era_need_so_far room) text room;
}
