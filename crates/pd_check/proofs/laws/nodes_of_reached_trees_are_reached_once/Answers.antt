use Rattle.pd_check.proofs.NodeLemmas.{tree_once}
use Rattle.pd_check.proofs.laws.nodes_of_reached_trees_are_reached_once.Goals as goal

pub returns : goal.returns
returns c = λ graph image b role size lawful ordered is reached.
    tree_once graph image lawful (c.reached_by_paths.ensures.super_block graph image) b role size is reached
    (c.reached_trees_are_sound.ensures.in_order graph image b role lawful ordered reached)
