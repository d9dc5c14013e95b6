use Rattle.std.proofs.Common.{Err, refl, ◌++◌}
use Rattle.pd_grammar.specs.EraText.{era, era_line}
use Rattle.pd_texts.specs.ThinLine.{end_text, text_of_line}
use Rattle.pd_meaning_era.specs.Parts.{eras_left}
use Rattle.pd_query.proofs.QueryLemmas.{first_lost, lost_with, prints_known, some_then}
use Rattle.pd_dumps.specs.EraLines.{rest_text, super_head}
use Rattle.pd_dumps.proofs.EraLemmas.{last_line}
use Rattle.pd_dumps.proofs.era.add_target.Goals as goal

pub returns-in_err-print_line-clause-prints : goal.returns-in_err-print_line-clause-prints
returns-in_err-print_line-clause-prints g c =
    let held = (g.D.Device.state c.args.dev.now).held in
    lost_with held c.from_residual.result c.from_residual.ensures.0
    (first_lost held (λ image. text_of_line era (era_line (super_head c.args.s.now)) ++ rest_text (eras_left image c.args.eras.now)) (λ image. refl)
    (prints_known {result = Err c.in_err-print_line.field-0.0} held (rw c.bytes_of_first.ensures.bytes at c.in_err-print_line.ensures.prints)))

pub returns-in_err-print_text_line-clause-prints : goal.returns-in_err-print_text_line-clause-prints
returns-in_err-print_text_line-clause-prints g c =
    let held = (g.D.Device.state c.args.dev.now).held in
    lost_with held c.from_residual-in_err-print_text_line.result c.from_residual-in_err-print_text_line.ensures.0
    (some_then held (Err c.in_err-print_text_line.field-0.0) (λ image. refl) (prints_known held (rw c.bytes_of_first.ensures.bytes at c.in_ok-print_line.ensures.prints))
    (first_lost held (λ image. rest_text (eras_left image c.args.eras.now)) (λ image. refl)
    (prints_known {result = Err c.in_err-print_text_line.field-0.0} held (rw c.era_line.ensures at c.in_err-print_text_line.ensures.prints))))

pub returns-in_err-add_runs-clause-prints : goal.returns-in_err-add_runs-clause-prints
returns-in_err-add_runs-clause-prints g c =
    let held = (g.D.Device.state c.args.dev.now).held in
    lost_with held c.from_residual-in_err-add_runs.result c.from_residual-in_err-add_runs.ensures.0
    (some_then held (Err c.in_err-add_runs.field-0.0) (λ image. refl) (prints_known held (rw c.bytes_of_first.ensures.bytes at c.in_ok-print_line.ensures.prints))
    (some_then held (Err c.in_err-add_runs.field-0.0) (λ image. refl) (prints_known held (rw c.era_line.ensures at c.in_ok-print_text_line.ensures.prints))
    (first_lost held (λ image. end_text) (λ image. last_line (eras_left image c.args.eras.now)) c.in_err-add_runs.ensures.prints)))

pub returns-clause-prints : goal.returns-clause-prints
returns-clause-prints g c =
    let held = (g.D.Device.state c.args.dev.now).held in
    some_then held c.print_line-2.result (λ image. refl) (prints_known held (rw c.bytes_of_first.ensures.bytes at c.in_ok-print_line.ensures.prints))
    (some_then held c.print_line-2.result (λ image. refl) (prints_known held (rw c.era_line.ensures at c.in_ok-print_text_line.ensures.prints))
    (some_then held c.print_line-2.result (λ image. last_line (eras_left image c.args.eras.now)) c.in_ok-add_runs.ensures.prints
    (prints_known held (rw c.bytes_of_end.ensures.bytes at c.print_line-2.ensures.prints))))
