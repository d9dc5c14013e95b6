use Rattle.pd_grammar.proofs.EraLaws.{era_accepted, era_without_room}
use Rattle.pd_grammar.proofs.laws.era_text_is_accepted_where_there_is_room.Goals as goal

pub returns : goal.returns
returns c = record { accepted = era_accepted; no_room = era_without_room }
