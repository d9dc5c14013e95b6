use Rattle.std.proofs.Common.{refl, sym, ◌∙◌}
use Rattle.pd_kinds.specs.Layout.{leaf_entries, node_entries_of}
use Rattle.pd_layouts.specs.Layout.{value_size}
use Rattle.pd_layouts.proofs.NodeRules.{none_beyond}
use Rattle.pd_layouts.proofs.tree.is_entry_beyond.Goals as goal

pub returns-then-is_inner : goal.returns-then-is_inner
unfolding leaf_entries
returns-then-is_inner c = rw (sym c.is_inner.ensures ∙ c.if-is_inner.true) refl

pub returns-in-Nothing : goal.returns-in-Nothing
unfolding leaf_entries
returns-in-Nothing c =
    rw (sym c.is_inner.ensures ∙ c.if-is_inner.false)
    (none_beyond c.args.value c.args.names (node_entries_of (value_size c.args.value) c.args.b.now.0) c.in-Nothing.is)

pub returns-in-MetadataByEra : goal.returns-in-MetadataByEra
unfolding leaf_entries
returns-in-MetadataByEra c =
    rw (sym c.is_inner.ensures ∙ c.if-is_inner.false, c.in-MetadataByEra.is) c.is_key_beyond.ensures

pub returns-in-Data : goal.returns-in-Data
unfolding leaf_entries
returns-in-Data c = rw (sym c.is_inner.ensures ∙ c.if-is_inner.false, c.in-Data.is) c.is_named_beyond.ensures
