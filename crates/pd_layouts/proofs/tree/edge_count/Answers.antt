use Rattle.std.proofs.Common.{◌≡◌, rules, ◌∙◌}
use Rattle.pd_layouts.specs.Layout.{value_size, value_target}
use Rattle.pd_layouts.proofs.Rows.{edge_number, edge_number_is}
use Rattle.pd_layouts.proofs.tree.edge_count.Goals as goal

pub returns-then-is_inner : goal.returns-then-is_inner
returns-then-is_inner c = λ role.
    let count : c.entries-count.result ≡ edge_number (value_size c.args.value) c.args.names c.args.b.now.0 = search rules in
    count ∙ edge_number_is role (value_size c.args.value) c.args.names (value_target c.args.value) c.args.b.now.0

pub returns-else-is_inner : goal.returns-else-is_inner
returns-else-is_inner c = λ role.
    let count : c.metadata_of.result ≡ edge_number (value_size c.args.value) c.args.names c.args.b.now.0 = search rules in
    count ∙ edge_number_is role (value_size c.args.value) c.args.names (value_target c.args.value) c.args.b.now.0
