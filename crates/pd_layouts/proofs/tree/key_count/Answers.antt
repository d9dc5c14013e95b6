use Rattle.std.proofs.Common.{sym, ◌∙◌}
use Rattle.std.proofs.lemmas.List.FromFn.{length-map-range_with_len}
use Rattle.pd_kinds.specs.Node.{entry_count, key_at, node_keys}
use Rattle.pd_layouts.specs.Layout.{value_size}
use Rattle.pd_layouts.proofs.tree.key_count.Goals as goal

pub returns : goal.returns
unfolding node_keys
returns c = c.entries.ensures ∙ sym (length-map-range_with_len (key_at c.args.b.now.0) 0 (entry_count (value_size c.args.value) c.args.b.now.0))
