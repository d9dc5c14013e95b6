use Rattle.std.proofs.lemmas.Result.{err_from_is_err_and}
use Rattle.pd_restoring.proofs.RestoreLemmas.{never_begun}
use Rattle.pd_restoring.proofs.restoring.restore.Goals as goal

pub returns-in_err-begun-clause-restored : goal.returns-in_err-begun-clause-restored
returns-in_err-begun-clause-restored g c =
    let p = err_from_is_err_and c.from_residual.result c.from_residual.ensures.1 in
    rw (p.1, p.2)
    (never_begun (g.K.Restoring.subject c.args.kind.now) (g.K.Restoring.verdicts c.args.kind.now) c.in_err-begun.field-0.0 (g.S.Source.state c.args.source.now)
    (g.S.Source.state c.begin.new.source) (g.D.Device.state c.args.dev.now) c.in_err-begun.ensures.faults c.in_err-begun.ensures.told)
