use Rattle.pd_laws_answers.proofs.Cleared.{tells_clean}
use Rattle.pd_laws_answers.proofs.laws.checks_tell_clean_images.Goals as goal

pub returns : goal.returns
returns c = tells_clean c.faults_are_none_where_clean.ensures
