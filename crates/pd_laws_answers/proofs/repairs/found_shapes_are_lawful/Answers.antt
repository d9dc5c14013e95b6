use Rattle.pd_laws_answers.proofs.Repaired.{found_shape_lawful}
use Rattle.pd_laws_answers.proofs.repairs.found_shapes_are_lawful.Goals as goal

pub returns : goal.returns
returns c = λ image transaction block_size blocks roots is fit best.
    found_shape_lawful c.found_pools_are_saved_whole.ensures.saved c.saved_shapes_mean_what_is_saved.ensures transaction block_size blocks image roots is best
    c.saved_shapes_are_shapes.ensures.shape (c.found_pools_are_lawful.ensures image transaction block_size blocks roots is fit best)
