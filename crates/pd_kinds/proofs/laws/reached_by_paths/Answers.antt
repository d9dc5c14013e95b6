use Rattle.pd_kinds.specs.Graph.{is_reached, nodes, next}
use Rattle.pd_kinds.proofs.PathLemmas.{path_from_reached, reached_from_path}
use Rattle.std.proofs.Common.{refl, ◌*◌}
use Rattle.pd_kinds.proofs.laws.reached_by_paths.Goals as goal

pub returns-clause-any : goal.returns-clause-any
returns-clause-any c = λ graph image first p. (
  path_from_reached (16 * graph.nr) (next graph image) (16 * graph.nr) p,
  reached_from_path (16 * graph.nr) (next graph image) p,
)

pub returns-clause-super_block : goal.returns-clause-super_block
unfolding is_reached
returns-clause-super_block c = λ graph image p. returns-clause-any c graph image 0 p

pub returns-clause-same_nodes : goal.returns-clause-same_nodes
unfolding nodes is_reached
returns-clause-same_nodes c = λ graph image. refl
