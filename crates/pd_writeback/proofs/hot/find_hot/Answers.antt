use Rattle.pd_kinds.proofs.ResultLemmas.{if_any}
use Rattle.pd_writeback.proofs.hot.find_hot.Goals as goal

pub gather-requires-clause-knows : goal.gather-requires-clause-knows
gather-requires-clause-knows g c = if_any (g.A.Device.state c.args.meta.now).held c.in_ok-rows.ensures.knows
