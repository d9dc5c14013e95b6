use Rattle.pd_grammar.proofs.GrammarLemmas.{is_reader}
use Rattle.pd_grammar.specs.EraText.{era, MeansEra}
use Rattle.pd_grammar.proofs.EraRead.{FitsLine, Placed, era_grammar}
use Rattle.pd_grammar.proofs.EraLaws.{era_language}
use Rattle.pd_texts.proofs.LawLemmas.{whole_bytes, whole_spells}
use Rattle.pd_texts_kinds.proofs.era_lines.whole_era_text_spells.Goals as goal

pub returns : goal.returns
returns c = record { bytes = whole_bytes era (is_reader era FitsLine Placed era_grammar); spells = whole_spells era MeansEra FitsLine Placed era_language }
