use Rattle.pd_pool_dumps.proofs.ShapeTextLemmas.{shared_text_is}
use Rattle.pd_pool_dumps.proofs.shared_dump.shared_lines_are_the_text.Goals as goal

pub returns : goal.returns
returns c = λ image none. shared_text_is image (c.rows_are_the_devices.ensures image none) (c.pieces_are_those_of_the_shape.ensures image none)
