use Rattle.pd_laws_answers.proofs.ToldRoom.{room_told}
use Rattle.pd_laws_answers.proofs.searches.repairs_have_room_where_told.Goals as goal

pub returns : goal.returns
returns c = room_told
