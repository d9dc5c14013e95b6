use Rattle.pd_laws_shapes.proofs.VisitPieces.{is_shape, shared_twice}
use Rattle.pd_laws_shapes.proofs.shapes.saved_shapes_are_shapes.Goals as goal

pub returns-clause-shape : goal.returns-clause-shape
returns-clause-shape c = is_shape

pub returns-clause-twice : goal.returns-clause-twice
returns-clause-twice c = shared_twice
