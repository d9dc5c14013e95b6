use Rattle.pd_node.proofs.Shape.{keys_room}
use Rattle.pd_node.proofs.read.table_rules.Goals as goal

pub are_neighbours_ascending-ascending-requires : goal.are_neighbours_ascending-ascending-requires
are_neighbours_ascending-ascending-requires g c = rw c.entries.ensures (keys_room g.V.Value.SIZE c.args.block.now.0)
