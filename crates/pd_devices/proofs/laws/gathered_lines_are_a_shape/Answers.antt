use Rattle.pd_devices.proofs.WholeLemmas.{lines_are_a_shape}
use Rattle.pd_devices.proofs.laws.gathered_lines_are_a_shape.Goals as goal

pub returns : goal.returns
returns c = lines_are_a_shape
