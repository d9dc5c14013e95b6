use Rattle.pd_kinds.proofs.ResultLemmas.{if_any}
use Rattle.pd_meaning_era.proofs.KnownLemmas.{goes_known}
use Rattle.pd_meaning_era.proofs.descent.open.Goals as goal

pub returns-in-Some-clause-opened : goal.returns-in-Some-clause-opened
returns-in-Some-clause-opened g c =
    if_any (g.D.Device.state c.args.dev.now).held (λ image knows. goes_known image c.args.level c.args.b c.args.at c.in-Some.next c.args.end c.args.walk.now c.in-Some.ensures knows)
