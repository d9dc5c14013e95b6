use Rattle.std.proofs.Common.{◌∙◌}
use Rattle.pd_kinds.specs.Layout.{graph_of}
use Rattle.pd_kinds.specs.CacheFormat.{cache_graph}
use Rattle.pd_kinds.proofs.CacheTable.{super_sound}
use Rattle.pd_cache.proofs.WholeLemmas.{graph_is}
use Rattle.pd_cache.proofs.check.CacheTableMetadata.format.Goals as goal

pub of-requires-clause-some : goal.of-requires-clause-some
of-requires-clause-some c = rw c.read_cache_super.ensures (super_sound c.args._device_blocks c.args.b.now.0 c.requires).some_block

pub of-requires-clause-few : goal.of-requires-clause-few
of-requires-clause-few c = rw c.read_cache_super.ensures (super_sound c.args._device_blocks c.args.b.now.0 c.requires).few_blocks

pub returns-clause-graph : goal.returns-clause-graph
returns-clause-graph c = c.of.ensures ∙ graph_is c.args.b.now.0 c.read_cache_super.result c.read_cache_super.ensures

pub returns-clause-within : goal.returns-clause-within
unfolding cache_graph graph_of
returns-clause-within c = (super_sound c.args._device_blocks c.args.b.now.0 c.requires).within
