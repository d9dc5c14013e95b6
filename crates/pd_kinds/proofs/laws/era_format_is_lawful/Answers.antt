use Rattle.pd_kinds.specs.EraFormat.{era_fields, era_graph}
use Rattle.pd_kinds.proofs.EraTable.{super_sound, era_table}
use Rattle.pd_kinds.proofs.laws.era_format_is_lawful.Goals as goal

pub returns : goal.returns
unfolding era_graph
returns c = λ blocks super sound.
    let found = super_sound blocks super sound in
    era_table (era_fields super).meta_map.blocks 0 found.some_block found.few_blocks
