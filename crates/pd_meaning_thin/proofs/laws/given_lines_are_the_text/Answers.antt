use Rattle.pd_meaning_thin.proofs.RowLemmas.{text_is}
use Rattle.pd_meaning_thin.proofs.laws.given_lines_are_the_text.Goals as goal

pub returns : goal.returns
returns c = λ image none. text_is image (c.rows_are_the_devices.ensures image none)
