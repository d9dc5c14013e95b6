use Rattle.std.proofs.Common.{length, arith}
use Rattle.std.proofs.lemmas.Option.{IfSome_then}
use Rattle.pd_kinds.specs.Image.{room_of}
use Rattle.pd_kinds.specs.Meaning.{thin_meaning}
use Rattle.pd_grammar.specs.ThinText.{text_of_pool}
use Rattle.pd_laid.specs.LaidThin.{laid_shape}
use Rattle.pd_laid.specs.Shape.{shape_of}
use Rattle.pd_laid.specs.PoolText.{IsPoolTextVerdict, SpellsPoolShape, is_pool_text_early}
use Rattle.pd_laid.specs.PoolText.{shape_need}
use Rattle.pd_laws_answers.specs.Exact.{IsCleanShape}
use Rattle.pd_laws_answers.proofs.Restored.{pool_laws}
use Rattle.pd_laws_answers.proofs.Restored.{dump_restored, dump_same}
use Rattle.pd_laws_answers.proofs.Restored.{unshared_clean}
use Rattle.pd_laws_answers.proofs.laws.restored_dump_means_the_same.Goals as goal

pub returns-clause-restored : goal.returns-clause-restored
returns-clause-restored c image base file path before after status dump answered none =
    let m = thin_meaning image in
    let lawful = c.sound_pools_are_lawful.ensures image dump.is dump.sound in
    let spells = c.either_version_spells_a_shape.ensures.first (text_of_pool m) m (c.thin_text_spells.ensures m lawful) in
    let accepted = c.pool_text_is_accepted_where_there_is_room.ensures in
    let need = accepted.unshared m (room_of (length base)) lawful in
    let room = dump.room in
    dump_restored IsPoolTextVerdict is_pool_text_early laid_shape SpellsPoolShape shape_need IsCleanShape
    (pool_laws c.pool_text_has_one_verdict.ensures.one accepted.no_room c.laid_shapes_are_clean.ensures)
    file path before after (text_of_pool m) (shape_of m) base dump.text dump.held spells accepted.accepted (omega (arith, need, room)) status answered none

pub returns-clause-same : goal.returns-clause-same
returns-clause-same c image base file path before after dump answered =
    let m = thin_meaning image in
    let lawful = c.sound_pools_are_lawful.ensures image dump.is dump.sound in
    let spells = c.either_version_spells_a_shape.ensures.first (text_of_pool m) m (c.thin_text_spells.ensures m lawful) in
    IfSome_then after.output.held
    (dump_same SpellsPoolShape IsCleanShape before after (text_of_pool m) (shape_of m) base dump.text dump.held spells c.pool_text_has_one_shape.ensures
    (c.restored_pool_is_clean.ensures file path before after answered))
    (λ restored clean. (unshared_clean restored m clean).means)
