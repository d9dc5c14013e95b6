use Rattle.pd_laws_answers.proofs.SalvageLawful.{salvage_lawful}
use Rattle.pd_laws_answers.proofs.repairs.saved_pools_are_lawful.Goals as goal

pub returns : goal.returns
returns c = λ image is none. salvage_lawful image is.bytes is.blocks none
