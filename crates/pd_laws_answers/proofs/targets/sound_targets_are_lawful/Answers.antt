use Rattle.pd_laws_answers.proofs.EraLawful.{target_lawful}
use Rattle.pd_laws_answers.proofs.targets.sound_targets_are_lawful.Goals as goal

pub returns : goal.returns
returns c = λ image is none. target_lawful image is.bytes (c.lists_are_the_eras.ensures image none) is.blocks
