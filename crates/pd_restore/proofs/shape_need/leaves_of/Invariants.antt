use Rattle.std.proofs.Common.{take}
use Rattle.pd_meaning_thin.specs.Packed.{runs_from}
use Rattle.pd_restore.specs.ShapeNeed.{CountsPieces}
use Rattle.pd_restore.proofs.shape_need.leaves_of.Given as goal

abbrev pub invariant-loop-piece : goal.invariant-loop-piece
invariant-loop-piece l = CountsPieces (take l.piece-index l.pieces) l.runs (runs_from l.runs l.fn.place) l.counts
