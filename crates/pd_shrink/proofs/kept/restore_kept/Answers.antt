use Rattle.pd_shrink.proofs.kept.restore_kept.Goals as goal

pub returns-in-Pool-clause-made : goal.returns-in-Pool-clause-made
returns-in-Pool-clause-made g c = rw c.in-Pool.is c.restore_made.ensures.made

pub returns-in-Shape-clause-made : goal.returns-in-Shape-clause-made
returns-in-Shape-clause-made g c = rw c.in-Shape.is c.restore_shape.ensures.made
