use Rattle.std.proofs.Common.{◌-◌, refl, arith}
use Rattle.pd_salvage_shapes.specs.Note.{noted}
use Rattle.pd_salvage_shapes.proofs.MetPieces.{above_none, above_some, takes_own, takes_shared}
use Rattle.pd_salvage_shapes.specs.Pieces.{number_of_leaf}
use Rattle.pd_salvage_shapes.proofs.pieces.Piecing.take_met.Goals as goal

pub returns-then-number-eq0 : goal.returns-then-number-eq0
returns-then-number-eq0 c = λ ones pieces runs done leaf number some is.
    let takes = c.in_ok-take_runs.ensures.takes in
    takes_own ones pieces runs c.args.self.now c.take_runs.new.self done is leaf (noted c.args.note.now) (above_none (number_of_leaf ones leaf) (rw c.if-number-eq0.true at number))
    c.in_ok-take_runs.ensures.same.0 c.in_ok-take_runs.ensures.same.1 (takes _ is.mappings is.joining)

pub returns : goal.returns
returns c = λ ones pieces runs done leaf number some is.
    let positive = c.if-number-eq0.false in
    takes_shared ones pieces runs c.args.self.now _ done is leaf (noted c.args.note.now) c.end_own.new.self (c.args.number - 1) (above_some (number_of_leaf ones leaf) c.args.number number (omega arith)) (some (omega arith))
    (c.in_ok-end_own.ensures.ends _ is.mappings is.joining is.first) c.in_ok-add_piece.ensures refl refl refl
