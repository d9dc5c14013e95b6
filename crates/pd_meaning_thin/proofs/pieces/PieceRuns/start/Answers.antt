use Rattle.std.proofs.Common.{[], ap}
use Rattle.pd_meaning_thin.specs.Pieces.{joined_pieces, pieces_below}
use Rattle.pd_meaning_thin.proofs.pieces.PieceRuns.start.Goals as goal

pub returns-clause-pieces : goal.returns-clause-pieces
unfolding pieces_below
returns-clause-pieces c = λ shared image. rw c.new.ensures (ap (joined_pieces []) (c.in_ok-parts.ensures.parts shared image))
