use Rattle.std.proofs.Common.{refl}
use Rattle.pd_meaning_thin.specs.Packed.{runs_from}
use Rattle.pd_restore.proofs.ShapeNeedLemmas.{no_pieces, pieces_all, pieces_more}
use Rattle.pd_restore.proofs.shape_need.leaves_of.Goals as goal

pub loop-piece-init : goal.loop-piece-init
loop-piece-init c = no_pieces c.args.runs.now (runs_from c.args.runs.now c.args.place) _ refl refl refl

pub loop-piece-preserved : goal.loop-piece-preserved
loop-piece-preserved c =
    pieces_more c.args.pieces.now c.args.runs.now (runs_from c.args.runs.now c.args.place) c.loop-piece.piece-index _ c.loop-piece.counts c.in-Some.more c.loop-piece-test.true c.loop-piece.invariant (rw c.piece-item.is at c.in-Some.ensures)

pub returns : goal.returns
returns c = pieces_all c.args.pieces.now c.args.runs.now (runs_from c.args.runs.now c.args.place) c.loop-piece.piece-index c.loop-piece.counts c.loop-piece-test.false c.loop-piece.invariant
