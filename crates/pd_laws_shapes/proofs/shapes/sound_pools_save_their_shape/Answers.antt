use Rattle.pd_kinds.specs.declared.kind.Kind.TheVariants.{Thin}
use Rattle.pd_kinds.specs.declared.kind.Stage.TheVariants.{Whole}
use Rattle.pd_laws_shapes.proofs.SoundVisits.{sound_shape}
use Rattle.pd_laws_shapes.proofs.shapes.sound_pools_save_their_shape.Goals as goal

pub returns : goal.returns
returns c = λ image bytes none.
    sound_shape image (c.trees_are_in_order.ensures.in_order Thin Whole image tt none) (c.trees_are_in_order.ensures.lawful Thin Whole image none) bytes
    (c.sound_pool_is_saved.ensures image bytes none)
