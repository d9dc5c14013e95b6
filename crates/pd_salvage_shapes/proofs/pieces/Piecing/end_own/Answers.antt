use Rattle.std.proofs.Common.{◌≡◌, length, refl, sym, ap, ◌∙◌, arith}
use Rattle.std.proofs.lemmas.List.{append-nil, length-append}
use Rattle.pd_salvage_shapes.proofs.MetPieces.{no_piece, some_piece}
use Rattle.pd_salvage_shapes.proofs.pieces.Piecing.end_own.Goals as goal

pub returns-in_ok-add_piece-clause-ends : goal.returns-in_ok-add_piece-clause-ends
returns-in_ok-add_piece-clause-ends c = λ before ms is at.
    let has = c.in_ok-end.ensures before ms is in
    let lengths = ap length has.runs_are ∙ length-append before has.given in
    let number : c.in-Ok.count ≡ length has.given = omega (arith, c.in-Ok.ensures, c.len-all.ensures, c.saturating_sub.ensures) in
    record {
      given = has.given;
      runs_are = has.runs_are;
      written = has.written;
      joined = has.joined;
      pieces_are = c.in_ok-add_piece.ensures ∙ rw (some_piece has.given c.in-Ok.count number (omega arith)) refl;
      none = refl;
      first = omega (arith, c.len-all.ensures);
    }

pub returns-else-count-gt0-clause-ends : goal.returns-else-count-gt0-clause-ends
returns-else-count-gt0-clause-ends c = λ before ms is at.
    let has = c.in_ok-end.ensures before ms is in
    let lengths = ap length has.runs_are ∙ length-append before has.given in
    let number : c.in-Ok.count ≡ length has.given = omega (arith, c.in-Ok.ensures, c.len-all.ensures, c.saturating_sub.ensures) in
    record {
      given = has.given;
      runs_are = has.runs_are;
      written = has.written;
      joined = has.joined;
      pieces_are = rw (no_piece has.given (omega arith)) (sym (append-nil c.args.self.now.pieces.items));
      none = refl;
      first = omega (arith, c.len-all.ensures);
    }
