use Rattle.pd_laid.proofs.ShapeText.{pool_kept, is_shape}
use Rattle.pd_laid.proofs.shapes.shape_of_keeps_meaning.Goals as goal

pub returns-clause-kept : goal.returns-clause-kept
returns-clause-kept c = pool_kept

pub returns-clause-shape : goal.returns-clause-shape
returns-clause-shape c = is_shape
