use Rattle.pd_kinds.specs.ThinFormat.{thin_fields}
use Rattle.pd_kinds.specs.ThinFormat.{thin_graph}
use Rattle.pd_kinds.proofs.ThinTable.{super_sound, thin_table}
use Rattle.pd_kinds.proofs.laws.thin_format_is_lawful.Goals as goal

pub returns-clause-super_block : goal.returns-clause-super_block
unfolding thin_graph
returns-clause-super_block c = λ blocks super sound.
    let found = super_sound blocks super sound in
    thin_table (thin_fields super).meta_map.blocks (thin_fields super).data_map.blocks found.some_block found.few_blocks

pub returns-clause-table : goal.returns-clause-table
returns-clause-table c = thin_table
