use Rattle.pd_texts_kinds.proofs.EraLemmas.{era_lines}
use Rattle.pd_texts_kinds.proofs.era_lines.era_text_is_its_lines.Goals as goal

pub returns : goal.returns
returns c = era_lines
