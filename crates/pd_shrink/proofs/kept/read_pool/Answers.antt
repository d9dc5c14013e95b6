use Rattle.pd_kinds.specs.Meaning.{thin_meaning}
use Rattle.pd_laid.specs.Salvage.{salvage_from}
use Rattle.pd_salvage.specs.Saved.{pool_of}
use Rattle.pd_shrink.proofs.PlanLemmas.{saved_means}
use Rattle.pd_shrink.proofs.kept.read_pool.Goals as goal

pub returns-in-Ok-clause-means : goal.returns-in-Ok-clause-means
returns-in-Ok-clause-means g c =
    saved_means salvage_from thin_meaning c.sound_pool_is_saved.ensures c.args.s.now (pool_of c.in-Ok.saved) (g.A.Device.state c.args.meta.now).held (g.met.A.Device.bytes c.args.meta.now) c.requires.sound c.in-Ok.ensures.saved
