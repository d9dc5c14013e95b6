use Rattle.pd_shrink.proofs.kept.need_of_kept.Goals as goal

pub returns-in-Pool : goal.returns-in-Pool
returns-in-Pool c = rw c.in-Pool.is c.need_of_saved.ensures

pub returns-in-Shape : goal.returns-in-Shape
returns-in-Shape c = rw c.in-Shape.is c.need_of_shape.ensures
