use Rattle.pd_laws_changed.proofs.MovedShapes.{shape_means}
use Rattle.pd_laws_changed.proofs.moved.moved_shapes_mean_moved_pools.Goals as goal

pub returns : goal.returns
returns c = λ w end moves. shape_means w end moves
