use Rattle.std.proofs.lemmas.Result.{err_from_is_err_and}
use Rattle.pd_restore.proofs.thin.PoolsRestoring.begin.Goals as goal

pub returns-in_err-pool-clause-told : goal.returns-in_err-pool-clause-told
returns-in_err-pool-clause-told g c t is =
    let p = err_from_is_err_and c.from_residual-in_err-pool.result c.from_residual-in_err-pool.ensures.1 in
    rw (p.1, p.2) (c.in_err-pool.ensures.told t (rw is (c.in_ok-text.ensures.text t)))
