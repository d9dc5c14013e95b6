-- Each kind's faults are those of the first failing stage.
use Rattle.pd_kinds.specs.Stages.{faults, checked_of}
use Rattle.pd_kinds.proofs.CleanLemmas.{clean_where_none, none_where_clean}
use Rattle.pd_kinds.proofs.laws.faults_are_none_where_clean.Goals as goal

pub returns : goal.returns
unfolding faults
returns c = λ kind image. (clean_where_none (checked_of kind image) image, none_where_clean (checked_of kind image) image)
