use Rattle.std.proofs.Common.{[], false, refl}
use Rattle.std.proofs.lemmas.Result.{err_from_is_err_and}
use Rattle.pd_files.specs.FileCall.{gave}
use Rattle.pd_files.proofs.GivenLemmas.{one_look}
use Rattle.pd_files.proofs.run.ReadBlocks.fill.Goals as goal

pub returns-in_err-came-clause-failed : goal.returns-in_err-came-clause-failed
returns-in_err-came-clause-failed g c =
    let p = err_from_is_err_and c.from_residual-in_err-came.result c.from_residual-in_err-came.ensures.1 in
    rw (p.1, c.in_err-came.ensures.failed) (one_look (gave [] false) _ refl)
