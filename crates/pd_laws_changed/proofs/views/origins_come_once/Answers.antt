use Rattle.pd_kinds.specs.declared.kind.Stage.TheVariants.{Whole}
use Rattle.pd_laws_changed.proofs.SoundCache.{single}
use Rattle.pd_laws_changed.proofs.views.origins_come_once.Goals as goal

pub returns : goal.returns
returns c = λ image none. single image none (c.superblocks_lead_to_reached_roots.ensures.cache Whole image tt none)
