use Rattle.pd_laws_answers.proofs.ToldRoom.{found_told}
use Rattle.pd_laws_answers.proofs.searches.searches_have_room_where_told.Goals as goal

pub returns : goal.returns
returns c = λ shared image transaction block_size blocks roots room bytes fit.
    found_told c.found_pools_are_saved_whole.ensures.saved image transaction block_size blocks roots bytes fit shared room
