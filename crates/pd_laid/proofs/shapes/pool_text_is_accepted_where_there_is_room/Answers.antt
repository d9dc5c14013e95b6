use Rattle.pd_laid.proofs.Unshared.{unshared_need}
use Rattle.pd_laid.proofs.Unshared.{either_accepted, either_without_room}
use Rattle.pd_laid.proofs.shapes.pool_text_is_accepted_where_there_is_room.Goals as goal

pub returns-clause-accepted : goal.returns-clause-accepted
returns-clause-accepted c = either_accepted

pub returns-clause-no_room : goal.returns-clause-no_room
returns-clause-no_room c = either_without_room

pub returns-clause-unshared : goal.returns-clause-unshared
returns-clause-unshared c = unshared_need
