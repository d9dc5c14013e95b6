use Rattle.std.proofs.Common.{◌∙◌}
use Rattle.pd_node.proofs.Begun.{leaf_of}
use Rattle.pd_node.proofs.open_leaf.seal_leaf.Goals as goal

pub returns : goal.returns
returns g c = rw c.SIZE.ensures at c.seal_node.ensures.sealed ∙ leaf_of g.V.Value.SIZE c.args.place c.args.block.now.0 c.args.count c.requires.begun
