use Rattle.pd_meaning_thin.proofs.LawfulLemmas.{pool_lawful}
use Rattle.pd_meaning_thin.proofs.LawfulLemmas.{sizes}
use Rattle.pd_meaning_thin.proofs.laws.sound_pools_are_lawful.Goals as goal

pub returns : goal.returns
returns c = λ image is none.
    pool_lawful image is.bytes (c.rows_are_the_devices.ensures image none) (sizes image none) is.blocks (c.sound_pool_is_saved.ensures image is.bytes none)
