use Rattle.pd_gen.proofs.Spelled.{generated_spells}
use Rattle.pd_gen.proofs.source.generated_text_spells_a_pool.Goals as goal

pub returns : goal.returns
returns c = λ number few. generated_spells number few
