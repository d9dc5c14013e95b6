use Rattle.pd_laws_laid.proofs.LaidLemmas.{laid_in_order}
use Rattle.pd_laws_laid.proofs.graph.laid_blocks_are_in_order.Goals as goal

pub returns : goal.returns
returns c = laid_in_order
