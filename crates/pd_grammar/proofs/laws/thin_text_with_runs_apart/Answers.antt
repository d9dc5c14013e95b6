use Rattle.pd_grammar.proofs.ThinLaws.{one_pool_text}
use Rattle.pd_grammar.proofs.laws.thin_text_with_runs_apart.Goals as goal

pub returns : goal.returns
returns c = one_pool_text
