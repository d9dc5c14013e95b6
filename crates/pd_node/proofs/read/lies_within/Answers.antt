use Rattle.std.proofs.Common.{◌<◌, arith}
use Rattle.pd_kinds.specs.Node.{node_max, node_value_size}
use Rattle.pd_node.proofs.Shape.{entry_says, shape_says, value_room}
use Rattle.pd_node.proofs.read.lies_within.Goals as goal

pub returns : goal.returns
returns g c =
    let size = g.V.Value.SIZE in
    let block = c.args.block.now.0 in
    let entry = entry_says size block c.args.i c.requires in
    let shape = shape_says size block entry.0 in
    let below : c.args.i < node_max block = omega (arith, entry.1, shape.entries) in
    let last = value_room (node_max block) (node_value_size block) c.args.i shape.room below in
    record {
      key = omega arith;
      child = λ inner. let size_is = rw inner at shape.value_size in rw size_is at last;
      value = λ leaf. let size_is = rw leaf at shape.value_size in rw size_is at last;
    }
