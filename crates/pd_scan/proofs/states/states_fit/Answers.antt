use Rattle.pd_scan.proofs.StateLemmas.{all_fit}
use Rattle.pd_scan.proofs.states.states_fit.Goals as goal

pub returns : goal.returns
returns c image data_blocks = all_fit image data_blocks
