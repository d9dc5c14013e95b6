use Rattle.std.proofs.Common.{ap, ◌∙◌}
use Rattle.pd_kinds.specs.Layout.{graph_of}
use Rattle.pd_kinds.specs.ThinFormat.{ThinFields}
use Rattle.pd_kinds.specs.ThinFormat.{thin_graph, thin_layout}
use Rattle.pd_kinds.proofs.ThinTable.{super_sound}
use Rattle.pd_thin.proofs.check.ThinTableMetadata.format.Goals as goal

pub of-requires-clause-some : goal.of-requires-clause-some
of-requires-clause-some c = rw c.read_thin_super.ensures (super_sound c.args._device_blocks c.args.b.now.0 c.requires).some_block

pub of-requires-clause-few : goal.of-requires-clause-few
of-requires-clause-few c = rw c.read_thin_super.ensures (super_sound c.args._device_blocks c.args.b.now.0 c.requires).few_blocks

pub returns-clause-graph : goal.returns-clause-graph
unfolding thin_graph
returns-clause-graph c =
    c.of.ensures
    ∙ ap (λ (fields : ThinFields).
    graph_of 11 fields.meta_map.blocks fields.data_map.blocks (thin_layout fields.meta_map.blocks fields.data_map.blocks))
    c.read_thin_super.ensures

pub returns-clause-within : goal.returns-clause-within
unfolding thin_graph graph_of
returns-clause-within c = (super_sound c.args._device_blocks c.args.b.now.0 c.requires).within
