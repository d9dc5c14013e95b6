use Rattle.std.proofs.Common.{length, arith}
use Rattle.pd_kinds.specs.Image.{room_of}
use Rattle.pd_laws_answers.proofs.laws.laid_shapes_are_clean.Goals as goal

pub returns : goal.returns
returns c = λ w base image lawful enough laid.
    let number = c.shape_takes_its_need.ensures.number w (room_of (length base)) lawful.shape lawful.pool enough (omega arith) in
    record {
      pool = c.laid_shape_is_clean.ensures w base image lawful.pool lawful.shape (omega (arith, number, enough)) laid;
      shared = λ twice. c.laid_shapes_keep_their_shape.ensures w base image lawful.pool lawful.shape twice (omega (arith, number, enough)) laid;
      counts = c.laid_shapes_count_each_leaf_once.ensures w base image lawful.pool lawful.shape (omega (arith, number, enough)) laid;
    }
