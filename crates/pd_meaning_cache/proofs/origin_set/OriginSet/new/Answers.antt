use Rattle.pd_meaning_cache.proofs.AddedLemmas.{counted_none}
use Rattle.pd_meaning_cache.proofs.origin_set.OriginSet.new.Goals as goal

pub returns-clause-added : goal.returns-clause-added
returns-clause-added c = counted_none c.in_ok-bits.bits.items c.in_ok-others.others.items c.in_ok-bits.ensures.items c.in_ok-others.ensures.items
