use Rattle.pd_laws_answers.proofs.SalvageLawful.{found_lawful}
use Rattle.pd_laws_answers.proofs.searches.found_pools_are_lawful.Goals as goal

pub returns : goal.returns
returns c = λ image transaction block_size blocks roots is fit best.
    found_lawful c.found_pools_are_saved_whole.ensures.saved image transaction block_size blocks roots is.bytes fit best
