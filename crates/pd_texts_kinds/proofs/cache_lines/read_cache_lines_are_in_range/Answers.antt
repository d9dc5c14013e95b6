use Rattle.pd_texts_kinds.proofs.CacheLemmas.{cache_read, map_read, end_read}
use Rattle.pd_texts_kinds.proofs.cache_lines.read_cache_lines_are_in_range.Goals as goal

pub returns : goal.returns
returns c = record { cache = cache_read; map = map_read; end = end_read }
