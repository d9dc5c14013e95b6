use Rattle.pd_laid.proofs.ShapeText.{one_shape_text}
use Rattle.pd_laid.proofs.shapes.shape_text_with_runs_apart.Goals as goal

pub returns : goal.returns
returns c = one_shape_text
