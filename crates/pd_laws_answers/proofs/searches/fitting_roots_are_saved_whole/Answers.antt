use Rattle.pd_laws_answers.proofs.NamedSaved.{named_found, named_shape_found}
use Rattle.pd_laws_answers.proofs.searches.fitting_roots_are_saved_whole.Goals as goal

pub returns-clause-pool : goal.returns-clause-pool
returns-clause-pool c image given named bytes fit =
    named_found c.found_pools_are_saved_whole.ensures.saved c.found_pools_are_saved_whole.ensures.details image given named bytes fit

pub returns-clause-shape : goal.returns-clause-shape
returns-clause-shape c image given named bytes fit =
    named_shape_found c.found_pools_are_saved_whole.ensures.saved c.found_pools_are_saved_whole.ensures.details image given named bytes fit
