use Rattle.pd_grammar.proofs.CacheLaws.{cache_accepted, cache_without_room}
use Rattle.pd_grammar.proofs.laws.cache_text_is_accepted_where_there_is_room.Goals as goal

pub returns : goal.returns
returns c = record { accepted = cache_accepted; no_room = cache_without_room }
