use Rattle.pd_grammar.proofs.EraLaws.{one_era_text}
use Rattle.pd_grammar.proofs.laws.era_text_with_runs_apart.Goals as goal

pub returns : goal.returns
returns c = one_era_text
