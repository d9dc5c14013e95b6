use Rattle.pd_laid.proofs.LaidLemmas.{tree_written}
use Rattle.pd_laid.proofs.images.laid_tree_is_written.Goals as goal

pub returns : goal.returns
returns c = tree_written
