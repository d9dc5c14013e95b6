use Rattle.pd_grammar.proofs.ThinLaws.{pool_text_spells}
use Rattle.pd_grammar.proofs.laws.thin_text_spells.Goals as goal

pub returns : goal.returns
returns c = pool_text_spells
