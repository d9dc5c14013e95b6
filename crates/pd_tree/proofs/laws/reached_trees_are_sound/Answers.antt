use Rattle.pd_kinds.specs.InOrder.{graph_of_kind}
use Rattle.pd_tree.proofs.SoundLemmas.{sound}
use Rattle.pd_tree.proofs.laws.reached_trees_are_sound.Goals as goal

pub returns-clause-in_order : goal.returns-clause-in_order
returns-clause-in_order c = λ graph image b role lawful ordered. sound graph image lawful (c.reached_by_paths.ensures.super_block graph image) ordered b role

pub returns-clause-without_faults : goal.returns-clause-without_faults
returns-clause-without_faults c = λ kind until image b role looks none.
    let graph = graph_of_kind kind image in
    sound graph image (c.trees_are_in_order.ensures.lawful kind until image none) (c.reached_by_paths.ensures.super_block graph image) (c.trees_are_in_order.ensures.in_order kind until image looks none) b role
