use Rattle.pd_laid.proofs.ShapeText.{unshared_spelled, shared_spelled}
use Rattle.pd_laid.proofs.shapes.either_version_spells_a_shape.Goals as goal

pub returns : goal.returns
returns c = record { first = unshared_spelled; second = shared_spelled }
