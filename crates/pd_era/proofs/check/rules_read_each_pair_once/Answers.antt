use Rattle.pd_era.proofs.WholeLemmas.{read_once}
use Rattle.pd_era.proofs.check.rules_read_each_pair_once.Goals as goal

pub returns : goal.returns
returns c = λ graph image audit fields ready.
    read_once graph image audit fields ready c.reached_blocks_are_no_more_than_nodes.ensures c.known_blocks_are_reached_once.ensures
