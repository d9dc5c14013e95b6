use Rattle.pd_cache.proofs.WholeLemmas.{read_twice}
use Rattle.pd_cache.proofs.check.rules_read_each_pair_twice.Goals as goal

pub returns : goal.returns
returns c = λ graph image audit fields ready.
    read_twice graph image audit fields ready c.reached_blocks_are_no_more_than_nodes.ensures c.known_blocks_are_reached_once.ensures
    c.nodes_of_reached_trees_are_reached_once.ensures
