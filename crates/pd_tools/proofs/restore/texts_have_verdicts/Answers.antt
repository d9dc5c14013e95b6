use Rattle.pd_tools.proofs.Restores.{all_kinds}
use Rattle.pd_tools.proofs.restore.texts_have_verdicts.Goals as goal

pub returns : goal.returns
returns c = all_kinds c.pool_text_has_one_verdict.ensures.some c.cache_text_has_one_verdict.ensures.some c.era_text_has_one_verdict.ensures.some
