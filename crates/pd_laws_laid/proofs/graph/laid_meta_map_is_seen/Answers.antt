use Rattle.pd_laws_laid.proofs.MetaMap.{map_seen}
use Rattle.pd_laws_laid.proofs.graph.laid_meta_map_is_seen.Goals as goal

pub returns : goal.returns
returns c = map_seen
