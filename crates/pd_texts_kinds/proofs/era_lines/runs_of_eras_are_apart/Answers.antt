use Rattle.pd_texts_kinds.proofs.EraLemmas.{joined_apart}
use Rattle.pd_texts_kinds.proofs.era_lines.runs_of_eras_are_apart.Goals as goal

pub returns : goal.returns
returns c = joined_apart
