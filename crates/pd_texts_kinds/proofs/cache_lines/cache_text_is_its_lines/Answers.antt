use Rattle.pd_texts_kinds.proofs.CacheLemmas.{cache_lines}
use Rattle.pd_texts_kinds.proofs.cache_lines.cache_text_is_its_lines.Goals as goal

pub returns : goal.returns
returns c = cache_lines
