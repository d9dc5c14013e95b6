-- Each kind's faults are those of the first failing stage.
use Rattle.pd_kinds.specs.Stages.{faults, checked_of, stages_to}
use Rattle.pd_kinds.proofs.OrderLemmas.{ascending_first}
use Rattle.pd_kinds.proofs.laws.faults_ascend.Goals as goal

pub returns : goal.returns
unfolding faults
returns c = λ kind until image. ascending_first (checked_of kind image) image (stages_to until)
