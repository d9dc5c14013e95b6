use Rattle.pd_check.proofs.NodeLemmas.{no_more}
use Rattle.pd_check.proofs.laws.reached_blocks_are_no_more_than_nodes.Goals as goal

pub returns : goal.returns
returns c = no_more
