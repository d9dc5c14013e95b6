use Rattle.pd_grammar.proofs.EraLaws.{era_text_spells}
use Rattle.pd_grammar.proofs.laws.era_text_spells.Goals as goal

pub returns : goal.returns
returns c = era_text_spells
