use Rattle.std.proofs.Common.{rules}
use Rattle.pd_kinds.specs.Graph.{edge_of}
use Rattle.pd_layouts.specs.Layout.{value_size, value_target}
use Rattle.pd_layouts.proofs.Rows.{edge_entry, edge_found}
use Rattle.pd_layouts.proofs.tree.edge_of_node.Goals as goal

pub child-requires-clause-entry : goal.child-requires-clause-entry
child-requires-clause-entry c =
    edge_entry c.args.role (value_size c.args.value) c.args.names (value_target c.args.value) c.args.b.now.0 c.args.i c.requires

pub named-requires-clause-entry : goal.named-requires-clause-entry
named-requires-clause-entry c =
    edge_entry c.args.role (value_size c.args.value) c.args.names (value_target c.args.value) c.args.b.now.0 c.args.i c.requires

pub returns-then-is_inner : goal.returns-then-is_inner
returns-then-is_inner c =
    edge_found c.args.role (value_size c.args.value) c.args.names (value_target c.args.value) c.args.b.now.0 c.args.i
    (edge_of c.args.role c.child.result) c.requires (search rules)

pub returns-else-is_inner : goal.returns-else-is_inner
returns-else-is_inner c =
    edge_found c.args.role (value_size c.args.value) c.args.names (value_target c.args.value) c.args.b.now.0 c.args.i
    (edge_of c.role.result c.named.result) c.requires (search rules)
