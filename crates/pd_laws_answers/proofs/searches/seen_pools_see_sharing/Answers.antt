use Rattle.pd_laws_answers.proofs.SeenSharing.{sees_sharing}
use Rattle.pd_laws_answers.proofs.searches.seen_pools_see_sharing.Goals as goal

pub returns : goal.returns
returns c = sees_sharing
