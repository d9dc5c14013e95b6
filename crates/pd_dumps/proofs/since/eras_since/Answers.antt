use Rattle.std.proofs.Common.{arith}
use Rattle.std.proofs.lemmas.Result.{err_from_is_err_and}
use Rattle.pd_meaning_era.specs.Eras.{eras_below}
use Rattle.pd_meaning_era.specs.Parts.{eras_left}
use Rattle.pd_query.proofs.QueryLemmas.{one_told, starts_as}
use Rattle.pd_dumps.proofs.SinceLemmas.{same_lines}
use Rattle.pd_dumps.proofs.since.eras_since.Goals as goal

pub returns-in_err-eras-clause-faults : goal.returns-in_err-eras-clause-faults
returns-in_err-eras-clause-faults g c =
    let p = err_from_is_err_and c.from_residual.result c.from_residual.ensures.1 in
    rw (p.1, p.2) (starts_as c.in_err-eras.field-0.0 _ _ c.in_err-eras.ensures.faults)

pub returns-clause-few : goal.returns-clause-few
returns-clause-few g c = omega (arith, c.in_ok-eras.ensures.number, c.blocks_fit.ensures)

pub returns-clause-text : goal.returns-clause-text
returns-clause-text g c =
    one_told (g.D.Device.state c.args.dev.now).held (λ image same. same_lines c.args.era (eras_left image c.in_ok-eras.eras) (eras_below image c.args.s.now) same) c.in_ok-eras.ensures.left
