use Rattle.pd_kinds.specs.declared.kind.Stage.TheVariants.{Counts}
use Rattle.pd_laws_answers.proofs.ShrinkLaws.{shape_laws}
use Rattle.pd_laws_answers.proofs.ShrunkSharing.{holds_sharing, leaves_sharing}
use Rattle.pd_laws_answers.proofs.shrinks.shrunk_pool_keeps_its_sharing.Goals as goal

pub returns-clause-made : goal.returns-clause-made
returns-clause-made c metadata output pool blocks before after status answered =
    holds_sharing
    (shape_laws c.sound_pools_have_a_shape.ensures.shape c.sound_pools_have_a_shape.ensures.means c.sound_pools_have_a_shape.ensures.twice c.sound_pools_are_lawful.ensures
    c.moved_shapes_mean_moved_pools.ensures c.moved_shapes_are_lawful.ensures c.laid_shapes_are_clean.ensures)
    (λ image end none. c.free_blocks_are_read_by_none.ensures Counts image end tt none)
    metadata output pool blocks before after status answered

pub returns-clause-left : goal.returns-clause-left
returns-clause-left c metadata output pool blocks before after status answered =
    leaves_sharing
    (shape_laws c.sound_pools_have_a_shape.ensures.shape c.sound_pools_have_a_shape.ensures.means c.sound_pools_have_a_shape.ensures.twice c.sound_pools_are_lawful.ensures
    c.moved_shapes_mean_moved_pools.ensures c.moved_shapes_are_lawful.ensures c.laid_shapes_are_clean.ensures)
    (λ image end none. c.free_blocks_are_read_by_none.ensures Counts image end tt none)
    metadata output pool blocks before after status answered
