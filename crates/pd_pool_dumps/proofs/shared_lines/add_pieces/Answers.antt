use Rattle.std.proofs.Common.{Some, None, Err, IfSome, map, ap, ◌∙◌, subst}
use Rattle.pd_grammar.specs.Texts.{text_of_lines}
use Rattle.pd_image.proofs.CrashLemmas.{only_reads_both}
use Rattle.pd_lines.specs.Printer.{printing}
use Rattle.pd_grammar.specs.ThinText.{thin}
use Rattle.pd_tree.specs.Stack.{IsNext}
use Rattle.pd_meaning_thin.specs.declared.pieces.Piece.{Piece}
use Rattle.pd_meaning_thin.specs.Walk.{shared_blocks}
use Rattle.pd_meaning_thin.specs.Pieces.{pieces_left}
use Rattle.pd_pool_dumps.specs.SharedLines.{piece_line}
use Rattle.pd_query.specs.declared.query.QueryFault.{QueryFault}
use Rattle.pd_query.specs.declared.query.QueryFault.TheVariants.{Device}
use Rattle.pd_query.proofs.QueryLemmas.{lost_with, one_told, prints_known, so_far_all, so_far_lost, so_far_more, so_far_stops}
use Rattle.pd_pool_dumps.proofs.SharedTextLemmas.{piece_first}
use Rattle.pd_pool_dumps.proofs.shared_lines.add_pieces.Goals as goal

pub returns-in-Err-clause-prints : goal.returns-in-Err-clause-prints
returns-in-Err-clause-prints g c = so_far_stops (g.D.Device.state c.args.dev.now).held Device c.loop-piece.invariant.so_far

pub returns-in_err-print_piece-in-Some-clause-prints : goal.returns-in_err-print_piece-in-Some-clause-prints
returns-in_err-print_piece-in-Some-clause-prints g c =
    let shared = shared_blocks c.args.shared.now in
    lost_with (g.D.Device.state c.args.dev.now).held {new = printing g.K.Sink.state c.print_piece.new.printer} c.from_residual.result c.from_residual.ensures.0
    (so_far_lost (g.D.Device.state c.args.dev.now).held (λ image. text_of_lines thin (map piece_line (pieces_left shared image c.next.new.self))) c.loop-piece.invariant.so_far
    (one_told (g.D.Device.state c.args.dev.now).held (λ image next. piece_first c.in-Some.piece (pieces_left shared image c.loop-piece.pieces) (pieces_left shared image c.next.new.self) next)
    (subst (λ o. IfSome o (λ image. IsNext {X = Piece} (Some c.in-Some.piece) (pieces_left shared image c.loop-piece.pieces) (pieces_left shared image c.next.new.self))) c.loop-piece.invariant.kept.held
    (rw c.in-Some.is at c.in-Ok.ensures.next)))
    (prints_known {result = Err c.in_err-print_piece-in-Some.field-0.0} (g.D.Device.state c.args.dev.now).held c.in_err-print_piece-in-Some.ensures.prints))

pub returns-in-None-clause-prints : goal.returns-in-None-clause-prints
returns-in-None-clause-prints g c =
    let shared = shared_blocks c.args.shared.now in
    so_far_all (g.D.Device.state c.args.dev.now).held tt c.loop-piece.invariant.so_far
    (one_told (g.D.Device.state c.args.dev.now).held (λ image none. ap (λ pieces. text_of_lines thin (map piece_line pieces)) none.0)
    (subst (λ o. IfSome o (λ image. IsNext {X = Piece} None (pieces_left shared image c.loop-piece.pieces) (pieces_left shared image c.next.new.self))) c.loop-piece.invariant.kept.held
    (rw c.in-None.is at c.in-Ok.ensures.next)))

pub loop-piece-preserved : goal.loop-piece-preserved
loop-piece-preserved g c =
    let shared = shared_blocks c.args.shared.now in
    record {
      same_reference = c.in_ok-print_piece-in-Some.ensures.same_reference ∙ c.loop-piece.invariant.same_reference;
      so_far = so_far_more (g.D.Device.state c.args.dev.now).held {E = QueryFault} c.loop-piece.invariant.so_far
          (one_told (g.D.Device.state c.args.dev.now).held (λ image next. piece_first c.in-Some.piece (pieces_left shared image c.loop-piece.pieces) (pieces_left shared image c.next.new.self) next)
          (subst (λ o. IfSome o (λ image. IsNext {X = Piece} (Some c.in-Some.piece) (pieces_left shared image c.loop-piece.pieces) (pieces_left shared image c.next.new.self))) c.loop-piece.invariant.kept.held
          (rw c.in-Some.is at c.in-Ok.ensures.next)))
          (prints_known (g.D.Device.state c.args.dev.now).held c.in_ok-print_piece-in-Some.ensures.prints);
      kept = only_reads_both c.loop-piece.invariant.kept c.in-Ok.ensures.kept;
      dev_faults = c.in-Ok.ensures.faults ∙ c.loop-piece.invariant.dev_faults;
      out_faults = c.in_ok-print_piece-in-Some.ensures.faults ∙ c.loop-piece.invariant.out_faults;
    }
