use Rattle.pd_kinds.specs.declared.kind.Stage.TheVariants.{Whole}
use Rattle.pd_laws_answers.proofs.CacheLawful.{cache_lawful}
use Rattle.pd_laws_answers.proofs.caches.sound_caches_are_lawful.Goals as goal

pub returns : goal.returns
returns c = λ image is none. cache_lawful image is.bytes none (c.superblocks_lead_to_reached_roots.ensures.cache Whole image tt none) is.blocks
