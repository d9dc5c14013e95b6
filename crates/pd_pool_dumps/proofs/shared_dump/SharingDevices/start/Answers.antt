use Rattle.std.proofs.lemmas.Result.{err_from_is_err_and}
use Rattle.pd_query.proofs.QueryLemmas.{starts_as}
use Rattle.pd_pool_dumps.proofs.shared_dump.SharingDevices.start.Goals as goal

pub returns-in_err-shared-clause-faults : goal.returns-in_err-shared-clause-faults
returns-in_err-shared-clause-faults g c =
    let p = err_from_is_err_and c.from_residual.result c.from_residual.ensures.1 in
    rw (p.1, p.2) (starts_as c.in_err-shared.field-0.0 _ _ c.in_err-shared.ensures.faults)
