use Rattle.pd_restore.proofs.BeginLemmas.{need_exact, need_some}
use Rattle.pd_restore.proofs.thin.PoolsRestoring.need.Goals as goal

pub returns-clause-need : goal.returns-clause-need
returns-clause-need c =
    let begun = c.args.begun.now in need_exact begun.pool begun.rest c.args.room c.need_thin.result c.requires.stands c.requires.most c.need_thin.ensures

pub returns-clause-some : goal.returns-clause-some
returns-clause-some c = need_some c.args.begun.now.pool c.args.room c.need_thin.result c.need_thin.ensures
