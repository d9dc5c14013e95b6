use Rattle.pd_laws_answers.proofs.Repaired.{shape_lawful}
use Rattle.pd_laws_answers.proofs.repairs.saved_shapes_are_lawful.Goals as goal

pub returns : goal.returns
returns c = λ image is none.
    shape_lawful c.saved_shapes_mean_what_is_saved.ensures c.saved_shapes_are_shapes.ensures.shape image none (c.saved_pools_are_lawful.ensures image is none)
