use Rattle.pd_check.proofs.NodeLemmas.{two_parts}
use Rattle.pd_check.proofs.laws.two_trees_have_no_more_nodes.Goals as goal

pub returns : goal.returns
returns c = λ graph image c' other b role size b2 role2 size2 lawful ordered first is reached is2 reached2 differ one two.
    two_parts graph image c' other role role2 _ _ first differ one two
    (c.nodes_of_reached_trees_are_reached_once.ensures graph image b role size lawful ordered is reached)
    (c.nodes_of_reached_trees_are_reached_once.ensures graph image b2 role2 size2 lawful ordered is2 reached2)
