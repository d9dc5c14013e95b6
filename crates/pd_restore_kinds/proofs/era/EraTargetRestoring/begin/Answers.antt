use Rattle.std.proofs.lemmas.Result.{err_from_is_err_and}
use Rattle.pd_restore_kinds.proofs.era.EraTargetRestoring.begin.Goals as goal

pub returns-in_err-target-clause-told : goal.returns-in_err-target-clause-told
returns-in_err-target-clause-told g c t left =
    let p = err_from_is_err_and c.from_residual-in_err-target.result c.from_residual-in_err-target.ensures.1 in
    rw (p.1, p.2) (c.in_err-target.ensures.told t (rw left (c.in_ok-text.ensures.text t)))
