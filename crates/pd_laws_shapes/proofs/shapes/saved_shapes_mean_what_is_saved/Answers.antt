use Rattle.pd_laws_shapes.proofs.VisitPieces.{shape_means}
use Rattle.pd_laws_shapes.proofs.shapes.saved_shapes_mean_what_is_saved.Goals as goal

pub returns : goal.returns
returns c = shape_means
