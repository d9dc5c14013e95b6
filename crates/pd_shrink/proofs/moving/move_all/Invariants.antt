use Rattle.std.proofs.Common.{drop}
use Rattle.pd_meaning_thin.specs.Packed.{runs_from}
use Rattle.pd_shrink.specs.Moves.{moves_in}
use Rattle.pd_shrink.proofs.MovesLemmas.{MovesParts}
use Rattle.pd_shrink.proofs.moving.move_all.Given as goal

-- the parts so far were moved
abbrev pub invariant-loop-part : goal.invariant-loop-part
invariant-loop-part g l =
    MovesParts g.T.Part.count g.T.Part.says (moves_in l.moves) l.parts l.runs (drop l.part-index l.parts) (runs_from l.runs l.place) l.moved.parts.items l.moved.runs
