use Rattle.pd_meaning_cache.proofs.cache_rows.CacheRows.start.Goals as goal

pub returns-clause-knows : goal.returns-clause-knows
returns-clause-knows c image = (c.in_ok-words.ensures.knows image, c.in_ok-sides.ensures.knows image)
