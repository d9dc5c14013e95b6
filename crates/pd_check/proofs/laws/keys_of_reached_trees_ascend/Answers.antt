use Rattle.pd_check.proofs.KnownLemmas.{keys_up}
use Rattle.pd_check.proofs.laws.keys_of_reached_trees_ascend.Goals as goal

pub returns : goal.returns
returns c = λ graph image b role size lawful ordered is reached.
    keys_up graph image b role size is (c.reached_trees_are_sound.ensures.in_order graph image b role lawful ordered reached)
