use Rattle.pd_laws_answers.proofs.ToldRoom.{named_told}
use Rattle.pd_laws_answers.proofs.searches.named_repairs_have_room_where_told.Goals as goal

pub returns : goal.returns
returns c = named_told
