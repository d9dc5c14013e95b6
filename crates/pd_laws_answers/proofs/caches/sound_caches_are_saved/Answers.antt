use Rattle.pd_kinds.specs.declared.kind.Kind.TheVariants.{Cache}
use Rattle.pd_kinds.specs.declared.kind.Stage.TheVariants.{Whole}
use Rattle.pd_laws_answers.proofs.SoundCache.{known_where_none, saved_where_none}
use Rattle.pd_laws_answers.proofs.caches.sound_caches_are_saved.Goals as goal

pub returns-clause-saved : goal.returns-clause-saved
returns-clause-saved c image bytes none =
    saved_where_none image (c.trees_are_in_order.ensures.in_order Cache Whole image tt none) (c.superblocks_lead_to_reached_roots.ensures.cache Whole image tt none) bytes none

pub returns-clause-known : goal.returns-clause-known
returns-clause-known c image bytes none =
    known_where_none image (c.trees_are_in_order.ensures.in_order Cache Whole image tt none) (c.superblocks_lead_to_reached_roots.ensures.cache Whole image tt none) bytes none
