use Rattle.pd_laid.specs.Shape.{image_shape}
use Rattle.pd_laid.specs.Salvage.{saved_shape_from}
use Rattle.pd_salvage.specs.SavedShape.{held_shape}
use Rattle.pd_shrink.proofs.PlanLemmas.{saved_means}
use Rattle.pd_shrink.proofs.kept.read_shape.Goals as goal

pub returns-in-Ok-clause-means : goal.returns-in-Ok-clause-means
returns-in-Ok-clause-means g c =
    saved_means saved_shape_from image_shape c.sound_pools_save_their_shape.ensures c.args.s.now (held_shape c.in-Ok.saved) (g.A.Device.state c.args.meta.now).held (g.met.A.Device.bytes c.args.meta.now) c.requires.sound
    c.in-Ok.ensures.saved
