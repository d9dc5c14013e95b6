use Rattle.pd_scan.proofs.StateLemmas.{first_is_found}
use Rattle.pd_scan.proofs.states.first_state_is_the_best.Goals as goal

pub returns : goal.returns
returns c image data_blocks = first_is_found image data_blocks
