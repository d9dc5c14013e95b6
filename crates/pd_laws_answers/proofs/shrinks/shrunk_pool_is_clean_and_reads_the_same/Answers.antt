use Rattle.pd_kinds.specs.declared.kind.Stage.TheVariants.{Counts}
use Rattle.pd_laws_answers.proofs.ShrinkLaws.{by_sharing, pool_laws, shape_laws}
use Rattle.pd_laws_answers.proofs.ShrunkReads.{holds_shrunk}
use Rattle.pd_laws_answers.proofs.shrinks.shrunk_pool_is_clean_and_reads_the_same.Goals as goal

pub returns : goal.returns
returns c = λ is_shared metadata output pool blocks before after status answered.
    holds_shrunk
    (record {
      making = by_sharing
          (pool_laws c.sound_pools_are_lawful.ensures c.moved_pool_is_lawful.ensures c.laid_pool_is_clean.ensures.clean)
          (shape_laws c.sound_pools_have_a_shape.ensures.shape c.sound_pools_have_a_shape.ensures.means c.sound_pools_have_a_shape.ensures.twice c.sound_pools_are_lawful.ensures
          c.moved_shapes_mean_moved_pools.ensures c.moved_shapes_are_lawful.ensures c.laid_shapes_are_clean.ensures)
          is_shared;
      free = λ image end none. c.free_blocks_are_read_by_none.ensures Counts image end tt none;
      kept = c.moving_keeps_what_is_read.ensures;
      moved = c.moved_pool_reads_the_same.ensures;
    })
    metadata output pool blocks before after status answered
