use Rattle.std.proofs.Common.{arith}
use Rattle.std.proofs.lemmas.Result.{err_from_is_err_and}
use Rattle.pd_query.proofs.QueryLemmas.{starts_as}
use Rattle.pd_dumps.proofs.era.eras_of.Goals as goal

pub returns-in_err-eras-clause-faults : goal.returns-in_err-eras-clause-faults
returns-in_err-eras-clause-faults g c =
    let p = err_from_is_err_and c.from_residual.result c.from_residual.ensures.1 in
    rw (p.1, p.2) (starts_as c.in_err-eras.field-0.0 _ _ c.in_err-eras.ensures.faults)

pub returns-clause-few : goal.returns-clause-few
returns-clause-few g c = omega (arith, c.in_ok-eras.ensures.number, c.blocks_fit.ensures)
