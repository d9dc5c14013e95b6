use Rattle.pd_laws_laid.proofs.LaidArrays.{array_seen}
use Rattle.pd_laws_laid.proofs.graph.laid_array_is_seen.Goals as goal

pub returns : goal.returns
returns c = array_seen
