use Rattle.pd_kinds.specs.declared.kind.Stage.TheVariants.{Whole}
use Rattle.pd_laws_answers.proofs.ToldWhole.{told_whole}
use Rattle.pd_laws_answers.proofs.searches.sound_pools_are_told_whole.Goals as goal

pub returns : goal.returns
returns c = λ image image_is none.
    told_whole image (c.pools_in_order_are_known.ensures Whole image tt none) image_is.bytes none (c.sound_pools_are_lawful.ensures image image_is none)
    (c.sound_pool_is_saved.ensures image image_is.bytes none)
