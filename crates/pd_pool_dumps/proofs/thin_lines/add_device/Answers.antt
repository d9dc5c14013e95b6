use Rattle.std.proofs.Common.{Err, map, refl}
use Rattle.pd_grammar.specs.ThinText.{device_line, map_line}
use Rattle.pd_meaning_thin.specs.Given.{details_of_row}
use Rattle.pd_meaning_thin.specs.Runs.{spelled}
use Rattle.pd_meaning_thin.specs.Runs.{runs_below}
use Rattle.pd_pool_dumps.specs.ThinText.{given_text}
use Rattle.pd_pool_dumps.proofs.RunLemmas.{counts_after}
use Rattle.pd_query.proofs.QueryLemmas.{first_lost, lost_with, prints_known, some_then}
use Rattle.pd_pool_dumps.proofs.thin_lines.add_device.Goals as goal

pub returns-in_err-add_line-clause-prints : goal.returns-in_err-add_line-clause-prints
returns-in_err-add_line-clause-prints g c =
    lost_with (g.D.Device.state c.args.dev.now).held c.from_residual.result c.from_residual.ensures.0
    (first_lost (g.D.Device.state c.args.dev.now).held (λ image. given_text (runs_below image c.args.row.now.root)) (λ image. refl) (prints_known {result = Err c.in_err-add_line.field-0.0} (g.D.Device.state c.args.dev.now).held c.in_err-add_line.ensures.prints))

pub returns-clause-prints : goal.returns-clause-prints
returns-clause-prints g c =
    some_then (g.D.Device.state c.args.dev.now).held c.add_runs_of.result (λ image. refl) (prints_known (g.D.Device.state c.args.dev.now).held c.in_ok-add_line.ensures.prints) c.add_runs_of.ensures.prints

pub returns-clause-counted : goal.returns-clause-counted
returns-clause-counted g c =
    counts_after (g.D.Device.state c.args.dev.now).held c.args.counts.now c.add_line.new.counts c.add_runs_of.new.counts (device_line (details_of_row c.args.row.now)) (λ image. map map_line (map spelled (runs_below image c.args.row.now.root))) c.add_runs_of.result c.in_ok-add_line.ensures.counted c.add_runs_of.ensures.counted
