use Rattle.pd_kinds.specs.Meaning.{cache_meaning}
use Rattle.pd_writeback.proofs.OnceLemmas.{each_once}
use Rattle.pd_writeback.proofs.places.hot_blocks_are_apart.Goals as goal

pub returns : goal.returns
returns c = λ image k none. each_once (cache_meaning image) (c.origins_come_once.ensures image none) k
