use Rattle.pd_laid.proofs.ShapeText.{shape_spelled}
use Rattle.pd_laid.proofs.shapes.shape_text_spells.Goals as goal

pub returns : goal.returns
returns c = shape_spelled
