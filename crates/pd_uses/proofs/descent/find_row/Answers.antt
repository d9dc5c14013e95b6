use Rattle.pd_query.proofs.QueryLemmas.{one_told}
use Rattle.pd_uses.proofs.FoundLemmas.{finds_row}
use Rattle.pd_uses.proofs.descent.find_row.Goals as goal

pub returns-clause-finds : goal.returns-clause-finds
returns-clause-finds g c =
    one_told (g.D.Device.state c.args.dev.now).held (λ image finds right. finds_row c.args.region image c.args.row.now c.in_ok-_some._some (finds right)) c.in_ok-_some.ensures.finds
