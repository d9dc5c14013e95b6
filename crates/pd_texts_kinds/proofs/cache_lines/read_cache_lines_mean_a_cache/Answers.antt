use Rattle.pd_texts_kinds.proofs.CacheLemmas.{lines_mean, lines_read}
use Rattle.pd_texts_kinds.proofs.cache_lines.read_cache_lines_mean_a_cache.Goals as goal

pub returns : goal.returns
returns c = record { means = lines_mean; so_far = lines_read }
