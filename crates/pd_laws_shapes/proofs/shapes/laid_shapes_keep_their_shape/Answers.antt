use Rattle.pd_laws_shapes.proofs.ShapeBack.{laid_shape_back}
use Rattle.pd_laws_shapes.proofs.shapes.laid_shapes_keep_their_shape.Goals as goal

pub returns : goal.returns
returns c = laid_shape_back
