use Rattle.pd_kinds.specs.declared.kind.Kind.TheVariants.{Thin}
use Rattle.pd_kinds.specs.declared.kind.Stage.TheVariants.{Whole}
use Rattle.pd_laid.proofs.SalvageLemmas.{saved_where_none}
use Rattle.pd_laid.proofs.salvages.sound_pool_is_saved.Goals as goal

pub returns : goal.returns
returns c = λ image bytes none.
    saved_where_none image (c.trees_are_in_order.ensures.in_order Thin Whole image tt none) (c.trees_are_in_order.ensures.lawful Thin Whole image none) bytes none
