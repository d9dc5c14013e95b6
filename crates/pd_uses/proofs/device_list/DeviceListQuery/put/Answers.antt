use Rattle.pd_query.proofs.QueryLemmas.{one_told}
use Rattle.pd_query.proofs.QueryLemmas.{puts_as}
use Rattle.pd_uses.proofs.device_list.DeviceListQuery.put.Goals as goal

pub returns-clause-text : goal.returns-clause-text
returns-clause-text g c = puts_as (one_told (g.D.Device.state c.args.dev.now).held (λ image own text is none. is (own none) none) c.requires.over) c.list_devices.ensures.lines
