use Rattle.pd_laws_answers.proofs.NamedSaved.{named_lawful, named_shape_lawful}
use Rattle.pd_laws_answers.proofs.searches.named_pools_are_lawful.Goals as goal

pub returns-clause-pool : goal.returns-clause-pool
returns-clause-pool c image given named is fit = named_lawful image given named is fit

pub returns-clause-shape : goal.returns-clause-shape
returns-clause-shape c image given named is fit =
    named_shape_lawful image given named is fit c.saved_shapes_mean_what_is_saved.ensures c.saved_shapes_are_shapes.ensures.shape
