use Rattle.pd_laws_answers.proofs.NamedSaved.{named_stays}
use Rattle.pd_laws_answers.proofs.SeenMade.{found_stays}
use Rattle.pd_laws_answers.proofs.SeenSharing.{pool_stays}
use Rattle.pd_laws_answers.proofs.searches.seen_pools_stay.Goals as goal

pub returns-clause-stays : goal.returns-clause-stays
returns-clause-stays c = pool_stays

pub returns-clause-found : goal.returns-clause-found
returns-clause-found c image transaction block_size blocks roots is fit best =
    found_stays image transaction block_size blocks roots best (c.found_pools_are_lawful.ensures image transaction block_size blocks roots is fit best)

pub returns-clause-named : goal.returns-clause-named
returns-clause-named c image given named is fit = named_stays image given named is fit (c.named_pools_are_lawful.ensures.pool image given named is fit)
