use Rattle.pd_tree.proofs.OnceLemmas.{once_is, under_is, levels_are}
use Rattle.pd_tree.proofs.laws.cursors_read_each_node_once.Goals as goal

pub returns-clause-once : goal.returns-clause-once
returns-clause-once g c = λ graph image b role is sound. once_is graph image b role g.V.Value.SIZE is sound

pub returns-clause-under : goal.returns-clause-under
returns-clause-under g c = λ graph image b role is sound. under_is graph image b role g.V.Value.SIZE is sound

pub returns-clause-levels : goal.returns-clause-levels
returns-clause-levels g c = λ graph image b role n is sound. levels_are graph image b role g.V.Value.SIZE is sound n
