use Rattle.pd_laid.proofs.LaidLemmas.{array_written}
use Rattle.pd_laid.proofs.images.laid_array_is_written.Goals as goal

pub returns : goal.returns
returns c = array_written
