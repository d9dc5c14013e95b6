use Rattle.pd_layouts.specs.Layout.{value_size, value_target}
use Rattle.pd_layouts.proofs.Rows.{data_entry, data_found}
use Rattle.pd_layouts.proofs.tree.data_of_node.Goals as goal

pub named-requires-clause-entry : goal.named-requires-clause-entry
named-requires-clause-entry c =
    (data_entry (value_size c.args.value) c.args.names (value_target c.args.value) c.args.b.now.0 c.args.i c.requires).0

pub named-requires-clause-leaf : goal.named-requires-clause-leaf
named-requires-clause-leaf c =
    (data_entry (value_size c.args.value) c.args.names (value_target c.args.value) c.args.b.now.0 c.args.i c.requires).1

pub returns : goal.returns
returns c =
    rw c.named.ensures
    (data_found (value_size c.args.value) c.args.names (value_target c.args.value) c.args.b.now.0 c.args.i c.requires)
