use Rattle.std.proofs.Common.{length, subst, sym, arith}
use Rattle.pd_kinds.specs.Image.{room_of}
use Rattle.pd_grammar.specs.Lawful.{IsLawfulPool}
use Rattle.pd_laws_laid.specs.Clean.{IsCleanPool}
use Rattle.pd_laid.specs.Shape.{image_shape}
use Rattle.pd_laid.specs.PoolText.{text_of_shape}
use Rattle.pd_laws_shapes.proofs.shapes.told_shapes_come_back.Goals as goal

pub returns-clause-accepted_shape : goal.returns-clause-accepted_shape
returns-clause-accepted_shape c image room is none fits =
    let w = image_shape image in
    let text = text_of_shape w in
    c.pool_text_is_accepted_where_there_is_room.ensures.accepted text w room
    (c.either_version_spells_a_shape.ensures.second text w (c.sound_pools_have_a_shape.ensures.spelled image is none)) fits

pub returns-clause-clean : goal.returns-clause-clean
returns-clause-clean c image base restored is none room laid =
    let w = image_shape image in
    let n = room_of (length base) in
    let means = c.sound_pools_have_a_shape.ensures.means image in
    let shape = c.sound_pools_have_a_shape.ensures.shape image is none in
    let lawful = subst IsLawfulPool (sym means) (c.sound_pools_are_lawful.ensures image is none) in
    let number = c.shape_takes_its_need.ensures.number w n shape lawful room (omega arith) in
    subst (IsCleanPool restored) means (c.laid_shape_is_clean.ensures w base restored lawful shape (omega (arith, number, room)) laid)

pub returns-clause-same : goal.returns-clause-same
returns-clause-same c image base restored is none room laid =
    let w = image_shape image in
    let n = room_of (length base) in
    let means = c.sound_pools_have_a_shape.ensures.means image in
    let shape = c.sound_pools_have_a_shape.ensures.shape image is none in
    let lawful = subst IsLawfulPool (sym means) (c.sound_pools_are_lawful.ensures image is none) in
    let number = c.shape_takes_its_need.ensures.number w n shape lawful room (omega arith) in
    c.laid_shapes_keep_their_shape.ensures w base restored lawful shape (c.sound_pools_have_a_shape.ensures.twice image) (omega (arith, number, room)) laid
