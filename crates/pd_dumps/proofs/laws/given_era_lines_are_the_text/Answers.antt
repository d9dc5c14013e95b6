use Rattle.pd_dumps.proofs.EraLemmas.{text_is}
use Rattle.pd_dumps.proofs.laws.given_era_lines_are_the_text.Goals as goal

pub returns : goal.returns
returns c = λ image none. text_is image (c.lists_are_the_eras.ensures image none)
