use Rattle.std.proofs.lemmas.Result.{err_from_is_err_and}
use Rattle.pd_query.proofs.QueryLemmas.{lost_as}
use Rattle.pd_pool_dumps.proofs.thin_dump.ThinDump.put.Goals as goal

pub returns-in_err-put_counted-clause-text : goal.returns-in_err-put_counted-clause-text
returns-in_err-put_counted-clause-text g c =
    let p = err_from_is_err_and c.from_residual.result c.from_residual.ensures.1 in
    rw p.1 (lost_as c.in_err-put_counted.field-0.0 _ c.in_err-put_counted.ensures.text)
