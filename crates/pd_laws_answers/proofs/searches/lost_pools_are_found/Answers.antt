use Rattle.pd_kinds.specs.declared.kind.Kind.TheVariants.{Thin}
use Rattle.pd_kinds.specs.declared.kind.Stage.TheVariants.{Whole}
use Rattle.pd_laws_answers.proofs.LostPool.{keeps_roots}
use Rattle.pd_laws_answers.proofs.Restored.{none_of_super}
use Rattle.pd_laws_answers.proofs.SalvageLawful.{sizes_are}
use Rattle.pd_laws_answers.proofs.searches.lost_pools_are_found.Goals as goal

pub returns : goal.returns
returns c = λ image lost image_is none is.
    keeps_roots image lost (c.pools_in_order_are_known.ensures Whole image tt none) (c.sound_pools_are_lawful.ensures image image_is none) none (sizes_are image (none_of_super Thin image none)) is
