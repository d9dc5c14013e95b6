use Rattle.pd_laid.specs.LaidThin.{laid_shape}
use Rattle.pd_laid.specs.PoolText.{IsPoolTextVerdict, SpellsPoolShape, is_pool_text_early}
use Rattle.pd_laid.specs.PoolText.{shape_need}
use Rattle.pd_laws_answers.specs.Exact.{IsCleanShape}
use Rattle.pd_laws_answers.proofs.Restored.{pool_laws}
use Rattle.pd_laws_answers.proofs.Restored.{holds_of_text}
use Rattle.pd_laws_answers.proofs.laws.restored_pool_is_clean.Goals as goal

pub returns : goal.returns
returns c =
    holds_of_text IsPoolTextVerdict is_pool_text_early laid_shape SpellsPoolShape shape_need IsCleanShape
    (pool_laws c.pool_text_has_one_verdict.ensures.one c.pool_text_is_accepted_where_there_is_room.ensures.no_room c.laid_shapes_are_clean.ensures)
