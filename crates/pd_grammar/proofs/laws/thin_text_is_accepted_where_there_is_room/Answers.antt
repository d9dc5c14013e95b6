use Rattle.pd_grammar.proofs.ThinLaws.{pool_accepted, pool_without_room}
use Rattle.pd_grammar.proofs.laws.thin_text_is_accepted_where_there_is_room.Goals as goal

pub returns : goal.returns
returns c = record { accepted = pool_accepted; no_room = pool_without_room }
