use Rattle.std.proofs.Common.{ℕ, List, Err, refl, ◌∷◌, ◌++◌, []}
use Rattle.std.specs.List.{flat_map}
use Rattle.pd_grammar.specs.ThinText.{end_line, first_line, pool_line, thin}
use Rattle.pd_texts.specs.ThinLine.{text_of_line}
use Rattle.pd_meaning_thin.specs.Runs.{rows_left}
use Rattle.pd_meaning_thin.specs.Given.{row_lines, super_head}
use Rattle.pd_pool_dumps.specs.ThinText.{rest_text}
use Rattle.pd_pool_dumps.proofs.RunLemmas.{counts_after, counts_before}
use Rattle.pd_query.proofs.QueryLemmas.{first_lost, lost_with, prints_known, some_then}
use Rattle.pd_pool_dumps.proofs.RunLemmas.{last_line}
use Rattle.pd_pool_dumps.proofs.thin_lines.add_pool.Goals as goal

pub returns-in_err-add_first_line-clause-prints : goal.returns-in_err-add_first_line-clause-prints
returns-in_err-add_first_line-clause-prints g c =
    lost_with (g.D.Device.state c.args.dev.now).held c.from_residual.result c.from_residual.ensures.0
    (first_lost (g.D.Device.state c.args.dev.now).held (λ image. text_of_line thin (pool_line (super_head c.args.s.now)) ++ rest_text image c.args.devices.now) (λ image. refl)
    (prints_known {result = Err c.in_err-add_first_line.field-0.0} (g.D.Device.state c.args.dev.now).held c.in_err-add_first_line.ensures.prints))

pub returns-in_err-add_line-clause-prints : goal.returns-in_err-add_line-clause-prints
returns-in_err-add_line-clause-prints g c =
    lost_with (g.D.Device.state c.args.dev.now).held c.from_residual-in_err-add_line.result c.from_residual-in_err-add_line.ensures.0
    (some_then (g.D.Device.state c.args.dev.now).held (Err c.in_err-add_line.field-0.0) (λ image. refl) (prints_known (g.D.Device.state c.args.dev.now).held c.in_ok-add_first_line.ensures.prints)
    (first_lost (g.D.Device.state c.args.dev.now).held (λ image. rest_text image c.args.devices.now) (λ image. refl) (prints_known {result = Err c.in_err-add_line.field-0.0} (g.D.Device.state c.args.dev.now).held (rw c.pool_line.ensures at c.in_err-add_line.ensures.prints))))

pub returns-in_err-add_devices-clause-prints : goal.returns-in_err-add_devices-clause-prints
returns-in_err-add_devices-clause-prints g c =
    lost_with (g.D.Device.state c.args.dev.now).held c.from_residual-in_err-add_devices.result c.from_residual-in_err-add_devices.ensures.0
    (some_then (g.D.Device.state c.args.dev.now).held (Err c.in_err-add_devices.field-0.0) (λ image. refl) (prints_known (g.D.Device.state c.args.dev.now).held c.in_ok-add_first_line.ensures.prints)
    (some_then (g.D.Device.state c.args.dev.now).held (Err c.in_err-add_devices.field-0.0) (λ image. refl) (prints_known (g.D.Device.state c.args.dev.now).held (rw c.pool_line.ensures at c.in_ok-add_line.ensures.prints))
    (first_lost (g.D.Device.state c.args.dev.now).held (λ image. text_of_line thin end_line) (λ image. last_line image c.args.devices.now) c.in_err-add_devices.ensures.prints)))

pub returns-clause-prints : goal.returns-clause-prints
returns-clause-prints g c =
    some_then (g.D.Device.state c.args.dev.now).held c.add_end_line.result (λ image. refl) (prints_known (g.D.Device.state c.args.dev.now).held c.in_ok-add_first_line.ensures.prints)
    (some_then (g.D.Device.state c.args.dev.now).held c.add_end_line.result (λ image. refl) (prints_known (g.D.Device.state c.args.dev.now).held (rw c.pool_line.ensures at c.in_ok-add_line.ensures.prints))
    (some_then (g.D.Device.state c.args.dev.now).held c.add_end_line.result (λ image. last_line image c.args.devices.now) c.in_ok-add_devices.ensures.prints (prints_known (g.D.Device.state c.args.dev.now).held c.add_end_line.ensures.prints)))

pub returns-clause-counted : goal.returns-clause-counted
returns-clause-counted g c =
    let rows = λ (image : List (List ℕ)). flat_map (row_lines image) (rows_left image c.args.devices.now) in
    let last = c.add_end_line.new.counts in
    counts_after (g.D.Device.state c.args.dev.now).held c.args.counts.now c.add_first_line.new.counts last first_line (λ image. pool_line (super_head c.args.s.now) ∷ (rows image ++ (end_line ∷ []))) c.add_end_line.result c.in_ok-add_first_line.ensures.counted
    (counts_after (g.D.Device.state c.args.dev.now).held c.add_first_line.new.counts c.add_line.new.counts last (pool_line (super_head c.args.s.now)) (λ image. rows image ++ (end_line ∷ [])) c.add_end_line.result (rw c.pool_line.ensures at c.in_ok-add_line.ensures.counted)
    (counts_before (g.D.Device.state c.args.dev.now).held c.add_line.new.counts c.add_devices.new.counts last rows end_line c.add_end_line.result c.in_ok-add_devices.ensures.counted c.add_end_line.ensures.counted))
