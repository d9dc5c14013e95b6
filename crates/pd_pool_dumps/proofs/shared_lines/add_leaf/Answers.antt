use Rattle.std.proofs.Common.{ℕ, Err, refl, ap}
use Rattle.pd_grammar.specs.Texts.{text_of_lines}
use Rattle.pd_grammar.specs.ThinText.{leaf_line, thin}
use Rattle.pd_texts.specs.ThinLine.{text_of_line}
use Rattle.pd_lines.specs.Printer.{printing}
use Rattle.pd_meaning_thin.specs.Runs.{runs_below}
use Rattle.pd_pool_dumps.specs.SharedLines.{leaf_lines}
use Rattle.pd_pool_dumps.specs.ThinText.{given_text}
use Rattle.pd_query.specs.declared.query.QueryFault.TheVariants.{Device}
use Rattle.pd_query.proofs.QueryLemmas.{first_lost, lost_with, one_told, prints_none, prints_told, prints_known, some_then}
use Rattle.pd_pool_dumps.proofs.shared_lines.add_leaf.Goals as goal

pub returns-in-Err-clause-prints : goal.returns-in-Err-clause-prints
returns-in-Err-clause-prints g c =
    prints_none (g.D.Device.state c.args.dev.now).held Device (λ image. text_of_lines thin (leaf_lines image c.args.number c.args.block)) (printing g.K.Sink.state c.args.printer.now)

pub returns-in_err-print_text_line-clause-prints : goal.returns-in_err-print_text_line-clause-prints
returns-in_err-print_text_line-clause-prints g c =
    let held = (g.D.Device.state c.args.dev.now).held in
    lost_with held c.from_residual.result c.from_residual.ensures.0
    (first_lost held (λ image. given_text (runs_below image c.args.block)) (λ image. refl)
    (prints_told {result = Err c.in_err-print_text_line.field-0.0} held
    (one_told held (λ image is. ap (λ (entries : ℕ). text_of_line thin (leaf_line (record { number = c.args.number; entries = entries }))) is) c.in-Ok.ensures.entries)
    (prints_known {result = Err c.in_err-print_text_line.field-0.0} held c.in_err-print_text_line.ensures.prints)))

pub returns-clause-prints : goal.returns-clause-prints
returns-clause-prints g c =
    let held = (g.D.Device.state c.args.dev.now).held in
    some_then held c.add_runs_of.result (λ image. refl)
    (prints_told held
    (one_told held (λ image is. ap (λ (entries : ℕ). text_of_line thin (leaf_line (record { number = c.args.number; entries = entries }))) is) c.in-Ok.ensures.entries)
    (prints_known held c.in_ok-print_text_line.ensures.prints))
    (rw c.in-Ok.ensures.kept.held at c.add_runs_of.ensures.prints)
