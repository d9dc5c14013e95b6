use Rattle.std.proofs.Common.{◌∙◌}
use Rattle.pd_node.proofs.Begun.{begun_none}
use Rattle.pd_node.proofs.open_leaf.new_leaf.Goals as goal

pub returns-clause-begun : goal.returns-clause-begun
returns-clause-begun c = λ size. c.zeros.ensures ∙ begun_none size
