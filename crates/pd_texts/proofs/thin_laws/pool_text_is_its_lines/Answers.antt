use Rattle.pd_texts.proofs.ThinNextLemmas.{pool_lines}
use Rattle.pd_texts.proofs.thin_laws.pool_text_is_its_lines.Goals as goal

pub returns : goal.returns
returns c = pool_lines
