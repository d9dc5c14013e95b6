use Rattle.std.proofs.Common.{get_or, refl, sym, ◌∙◌}
use Rattle.pd_kinds.proofs.KindsListLemmas.{all_rest}
use Rattle.pd_meaning_thin.specs.Packed.{runs_from}
use Rattle.pd_salvage.specs.SavedShape.{runs_of_piece}
use Rattle.pd_restore.specs.ShapeNeed.{IsRunIn}
use Rattle.pd_repair.specs.Snaps.{is_twice}
use Rattle.pd_repair.proofs.SnapLemmas.{behind_next, none_over, piece_next, pieces_over}
use Rattle.pd_repair.proofs.seen_shape.snap_of_pieces.Goals as goal

pub loop-piece-init : goal.loop-piece-init
loop-piece-init c = record { within = c.requires; snap = λ leaves snaps. refl; behind = refl }

pub loop-piece-preserved : goal.loop-piece-preserved
loop-piece-preserved c =
    let here = runs_from c.args.runs.now c.loop-piece.place in
    let later = runs_from c.args.runs.now c.later_of_piece-latest.new.place in
    let behind = rw c.piece-item.is at c.later_of_piece-latest.ensures.behind in
    record {
      within = rw behind (all_rest (IsRunIn c.args.counted.now.size) (runs_of_piece (get_or c.args.pieces.now c.loop-piece.piece-index _)) here c.loop-piece.invariant.within);
      snap = λ leaves snaps.
          piece_next (is_twice c.args.counted.now) leaves c.loop-piece.latest c.later_of_piece-latest.result c.args.pieces.now c.loop-piece.piece-index _ here later c.loop-piece-test.true
          (rw c.piece-item.is at (c.later_of_piece-latest.ensures.snap leaves snaps)) behind
          ∙ c.loop-piece.invariant.snap leaves snaps;
      behind = behind_next c.args.pieces.now c.loop-piece.piece-index _ here later c.loop-piece-test.true behind ∙ c.loop-piece.invariant.behind;
    }

pub returns-clause-snap : goal.returns-clause-snap
returns-clause-snap c leaves snaps =
    sym (pieces_over (is_twice c.args.counted.now) leaves c.loop-piece.latest c.args.pieces.now c.loop-piece.piece-index (runs_from c.args.runs.now c.loop-piece.place) c.loop-piece-test.false)
    ∙ c.loop-piece.invariant.snap leaves snaps

pub returns-clause-behind : goal.returns-clause-behind
returns-clause-behind c =
    sym (none_over c.args.pieces.now c.loop-piece.piece-index (runs_from c.args.runs.now c.loop-piece.place) c.loop-piece-test.false) ∙ c.loop-piece.invariant.behind
