use Rattle.pd_query.proofs.QueryLemmas.{one_told}
use Rattle.pd_dumps.proofs.EraLemmas.{has_some}
use Rattle.pd_dumps.proofs.since.WrittenSinceQuery.start.Goals as goal

pub returns-in-Ok-clause-over : goal.returns-in-Ok-clause-over
returns-in-Ok-clause-over g c = one_told (g.D.Device.state c.args.dev.now).held (λ image is none. is (has_some image none)) c.in-Ok.ensures.fields
