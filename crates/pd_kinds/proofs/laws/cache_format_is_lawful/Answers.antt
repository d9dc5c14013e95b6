use Rattle.pd_kinds.specs.CacheFormat.{cache_fields, cache_graph}
use Rattle.pd_kinds.proofs.CacheTable.{super_sound, cache_table}
use Rattle.pd_kinds.proofs.laws.cache_format_is_lawful.Goals as goal

pub returns : goal.returns
unfolding cache_graph
returns c = λ blocks super sound.
    let found = super_sound blocks super sound in
    cache_table (cache_fields super).meta_map.blocks 0 found.some_block found.few_blocks
