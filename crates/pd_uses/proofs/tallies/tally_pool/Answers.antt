use Rattle.std.proofs.lemmas.Result.{on_ok_weaker}
use Rattle.pd_query.proofs.QueryLemmas.{one_told}
use Rattle.pd_uses.proofs.ListRowLemmas.{rows_all}
use Rattle.pd_uses.proofs.tallies.tally_pool.Goals as goal

pub returns-clause-walks : goal.returns-clause-walks
returns-clause-walks g c =
    on_ok_weaker c.tally_rows.result
    (λ walked. one_told (g.D.Device.state c.args.dev.now).held (λ image walks. rows_all c.in_ok-meets.ensures.none (rw (c.in_ok-devices.ensures.rows image) at walks)) walked)
    c.tally_rows.ensures.walks
