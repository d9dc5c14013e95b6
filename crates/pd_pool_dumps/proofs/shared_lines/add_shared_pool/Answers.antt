use Rattle.std.proofs.Common.{Err, refl, ◌∷◌, ◌++◌, []}
use Rattle.pd_grammar.specs.Texts.{text_of_lines}
use Rattle.pd_grammar.specs.ThinText.{end_line, pool_line, thin}
use Rattle.pd_texts.specs.ThinLine.{text_of_line}
use Rattle.pd_meaning_thin.specs.Given.{super_head}
use Rattle.pd_pool_dumps.specs.ThinDump.{body_left}
use Rattle.pd_query.proofs.QueryLemmas.{first_lost, lost_with, prints_known, some_then}
use Rattle.pd_pool_dumps.proofs.SharedTextLemmas.{last_after}
use Rattle.pd_pool_dumps.proofs.shared_lines.add_shared_pool.Goals as goal

pub returns-in_err-add_shared_first-clause-prints : goal.returns-in_err-add_shared_first-clause-prints
returns-in_err-add_shared_first-clause-prints g c =
    lost_with (g.D.Device.state c.args.dev.now).held c.from_residual.result c.from_residual.ensures.0
    (first_lost (g.D.Device.state c.args.dev.now).held (λ image. text_of_line thin (pool_line (super_head c.args.s.now)) ++ text_of_lines thin (body_left image c.args.sharing.now ++ (end_line ∷ []))) (λ image. refl)
    (prints_known {result = Err c.in_err-add_shared_first.field-0.0} (g.D.Device.state c.args.dev.now).held c.in_err-add_shared_first.ensures.prints))

pub returns-in_err-print_text_line-clause-prints : goal.returns-in_err-print_text_line-clause-prints
returns-in_err-print_text_line-clause-prints g c =
    lost_with (g.D.Device.state c.args.dev.now).held c.from_residual-in_err-print_text_line.result c.from_residual-in_err-print_text_line.ensures.0
    (some_then (g.D.Device.state c.args.dev.now).held (Err c.in_err-print_text_line.field-0.0) (λ image. refl) (prints_known (g.D.Device.state c.args.dev.now).held c.in_ok-add_shared_first.ensures.prints)
    (first_lost (g.D.Device.state c.args.dev.now).held (λ image. text_of_lines thin (body_left image c.args.sharing.now ++ (end_line ∷ []))) (λ image. refl) (prints_known {result = Err c.in_err-print_text_line.field-0.0} (g.D.Device.state c.args.dev.now).held (rw c.pool_line.ensures at c.in_err-print_text_line.ensures.prints))))

pub returns-in_err-add_body-clause-prints : goal.returns-in_err-add_body-clause-prints
returns-in_err-add_body-clause-prints g c =
    lost_with (g.D.Device.state c.args.dev.now).held c.from_residual-in_err-add_body.result c.from_residual-in_err-add_body.ensures.0
    (some_then (g.D.Device.state c.args.dev.now).held (Err c.in_err-add_body.field-0.0) (λ image. refl) (prints_known (g.D.Device.state c.args.dev.now).held c.in_ok-add_shared_first.ensures.prints)
    (some_then (g.D.Device.state c.args.dev.now).held (Err c.in_err-add_body.field-0.0) (λ image. refl) (prints_known (g.D.Device.state c.args.dev.now).held (rw c.pool_line.ensures at c.in_ok-print_text_line.ensures.prints))
    (first_lost (g.D.Device.state c.args.dev.now).held (λ image. text_of_line thin end_line) (λ image. last_after (body_left image c.args.sharing.now) end_line) c.in_err-add_body.ensures.prints)))

pub returns-clause-prints : goal.returns-clause-prints
returns-clause-prints g c =
    some_then (g.D.Device.state c.args.dev.now).held c.print_line.result (λ image. refl) (prints_known (g.D.Device.state c.args.dev.now).held c.in_ok-add_shared_first.ensures.prints)
    (some_then (g.D.Device.state c.args.dev.now).held c.print_line.result (λ image. refl) (prints_known (g.D.Device.state c.args.dev.now).held (rw c.pool_line.ensures at c.in_ok-print_text_line.ensures.prints))
    (some_then (g.D.Device.state c.args.dev.now).held c.print_line.result (λ image. last_after (body_left image c.args.sharing.now) end_line) c.in_ok-add_body.ensures.prints (prints_known (g.D.Device.state c.args.dev.now).held (rw c.bytes_of_end.ensures.bytes at c.print_line.ensures.prints))))
