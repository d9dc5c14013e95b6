use Rattle.pd_damaged.proofs.KnownLemmas.{none_right}
use Rattle.pd_damaged.proofs.remains.Remains.unknown.Goals as goal

pub returns-clause-right : goal.returns-clause-right
returns-clause-right c = λ image. none_right c.in_ok-table.table image c.in_ok-table.ensures.unknown
