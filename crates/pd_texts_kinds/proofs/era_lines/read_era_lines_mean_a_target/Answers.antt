use Rattle.pd_grammar.specs.EraText.{era, MeansEra}
use Rattle.pd_grammar.proofs.EraRead.{FitsLine, Placed}
use Rattle.pd_grammar.proofs.EraLaws.{era_language}
use Rattle.pd_texts.proofs.LawLemmas.{read_lines_mean}
use Rattle.pd_texts_kinds.proofs.era_lines.read_era_lines_mean_a_target.Goals as goal

pub returns : goal.returns
returns c = read_lines_mean era MeansEra FitsLine Placed era_language
