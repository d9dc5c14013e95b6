use Rattle.std.proofs.Common.{◌∙◌, subst, sym}
use Rattle.std.proofs.lemmas.Option.{IfSome_then}
use Rattle.pd_laid.specs.LaidThin.{laid_shape}
use Rattle.pd_laws_laid.specs.Clean.{IsCleanPool}
use Rattle.pd_laid.specs.Shape.{image_shape}
use Rattle.pd_laid.specs.PoolText.{IsPoolTextVerdict, SpellsPoolShape, is_pool_text_early}
use Rattle.pd_laid.specs.PoolText.{shape_need}
use Rattle.pd_laid.specs.PoolText.{text_of_shape}
use Rattle.pd_laws_answers.specs.Exact.{IsCleanShape}
use Rattle.pd_laws_answers.proofs.Restored.{pool_laws}
use Rattle.pd_laws_answers.proofs.Restored.{dump_restored, dump_same}
use Rattle.pd_laws_answers.proofs.laws.restored_shared_dump_keeps_the_shape.Goals as goal

pub returns-clause-restored : goal.returns-clause-restored
returns-clause-restored c image base file path before after status dump answered none =
    let w = image_shape image in
    let text = text_of_shape w in
    let spells = c.either_version_spells_a_shape.ensures.second text w (c.sound_pools_have_a_shape.ensures.spelled image dump.is dump.sound) in
    let accepted = c.pool_text_is_accepted_where_there_is_room.ensures in
    dump_restored IsPoolTextVerdict is_pool_text_early laid_shape SpellsPoolShape shape_need IsCleanShape
    (pool_laws c.pool_text_has_one_verdict.ensures.one accepted.no_room c.laid_shapes_are_clean.ensures)
    file path before after text w base dump.text dump.held spells accepted.accepted dump.room status answered none

pub returns-clause-same : goal.returns-clause-same
returns-clause-same c image base file path before after dump answered =
    let w = image_shape image in
    let text = text_of_shape w in
    let spells = c.either_version_spells_a_shape.ensures.second text w (c.sound_pools_have_a_shape.ensures.spelled image dump.is dump.sound) in
    IfSome_then after.output.held
    (dump_same SpellsPoolShape IsCleanShape before after text w base dump.text dump.held spells c.pool_text_has_one_shape.ensures
    (c.restored_pool_is_clean.ensures file path before after answered))
    (λ restored clean. (
      subst (IsCleanPool restored) (c.sound_pools_have_a_shape.ensures.means image) clean.pool,
      clean.shared (c.sound_pools_have_a_shape.ensures.twice image),
    ))

pub returns-clause-counts : goal.returns-clause-counts
returns-clause-counts c image base file path before after dump no_copy few answered =
    let w = image_shape image in
    let text = text_of_shape w in
    let spells = c.either_version_spells_a_shape.ensures.second text w (c.sound_pools_have_a_shape.ensures.spelled image dump.is dump.sound) in
    let counted = c.sound_pools_count_each_leaf_once.ensures image dump.is dump.sound no_copy few in
    IfSome_then after.output.held
    (dump_same SpellsPoolShape IsCleanShape before after text w base dump.text dump.held spells c.pool_text_has_one_shape.ensures
    (c.restored_pool_is_clean.ensures file path before after answered))
    (λ restored clean d. clean.counts d ∙ sym (counted d))
