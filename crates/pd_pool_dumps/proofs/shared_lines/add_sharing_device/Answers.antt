use Rattle.std.proofs.Common.{Err, refl}
use Rattle.pd_grammar.specs.Texts.{text_of_lines}
use Rattle.pd_grammar.specs.ThinText.{thin}
use Rattle.pd_meaning_thin.specs.Walk.{shared_blocks}
use Rattle.pd_pool_dumps.specs.SharedLines.{pieces_lines}
use Rattle.pd_query.proofs.QueryLemmas.{first_lost, lost_with, prints_known, some_then}
use Rattle.pd_pool_dumps.proofs.shared_lines.add_sharing_device.Goals as goal

pub returns-in_err-print_text_line-clause-prints : goal.returns-in_err-print_text_line-clause-prints
returns-in_err-print_text_line-clause-prints g c =
    lost_with (g.D.Device.state c.args.dev.now).held c.from_residual.result c.from_residual.ensures.0
    (first_lost (g.D.Device.state c.args.dev.now).held (λ image. text_of_lines thin (pieces_lines (shared_blocks c.args.shared.now) image c.args.row.now.root)) (λ image. refl)
    (prints_known {result = Err c.in_err-print_text_line.field-0.0} (g.D.Device.state c.args.dev.now).held c.in_err-print_text_line.ensures.prints))

pub returns-clause-prints : goal.returns-clause-prints
returns-clause-prints g c =
    some_then (g.D.Device.state c.args.dev.now).held c.add_pieces_of.result (λ image. refl) (prints_known (g.D.Device.state c.args.dev.now).held c.in_ok-print_text_line.ensures.prints) c.add_pieces_of.ensures.prints
