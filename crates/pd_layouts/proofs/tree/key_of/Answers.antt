use Rattle.pd_kinds.specs.Node.{entry_count, key_at, node_keys}
use Rattle.pd_layouts.specs.Layout.{value_size}
use Rattle.pd_layouts.proofs.Rows.{below_row, slice_get-row}
use Rattle.pd_layouts.proofs.tree.key_of.Goals as goal

pub key-requires : goal.key-requires
unfolding node_keys
key-requires c = below_row (key_at c.args.b.now.0) (entry_count (value_size c.args.value) c.args.b.now.0) c.args.i c.requires

pub returns : goal.returns
unfolding node_keys
returns c =
    rw c.key.ensures
    (slice_get-row (key_at c.args.b.now.0) (entry_count (value_size c.args.value) c.args.b.now.0) c.args.i
    (below_row (key_at c.args.b.now.0) (entry_count (value_size c.args.value) c.args.b.now.0) c.args.i c.requires))
