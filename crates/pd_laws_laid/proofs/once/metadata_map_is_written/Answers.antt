use Rattle.pd_laws_laid.proofs.MapLemmas.{map_written}
use Rattle.pd_laws_laid.proofs.once.metadata_map_is_written.Goals as goal

pub returns : goal.returns
returns c = map_written
