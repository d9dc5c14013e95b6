use Rattle.std.proofs.Common.{refl}
use Rattle.pd_meaning_thin.specs.Packed.{runs_from}
use Rattle.pd_shrink.specs.Moves.{moves_in}
use Rattle.pd_shrink.proofs.MovesLemmas.{parts_next}
use Rattle.pd_shrink.proofs.moving.move_all.Goals as goal

pub loop-part-preserved : goal.loop-part-preserved
loop-part-preserved g c =
    parts_next g.T.Part.count g.T.Part.says (moves_in c.args.moves.now) c.args.parts.now c.args.runs.now c.loop-part.part-index _ (runs_from c.args.runs.now c.loop-part.place) _ _
    c.loop-part.moved.parts.items c.move_part.new.moved.parts.items c.loop-part.moved.runs c.move_part.new.moved.runs c.loop-part-test.true c.loop-part.invariant
    refl (rw c.part-item.is at c.in_ok-move_part.ensures.behind) (rw c.part-item.is at c.in_ok-move_part.ensures.moved)
