use Rattle.pd_kinds.proofs.ResultLemmas.{if_maps}
use Rattle.pd_smap.proofs.OverflowLeftLemmas.{pass_ahead}
use Rattle.pd_smap.proofs.overflow.Overflow.pass.Goals as goal

pub returns-clause-ahead : goal.returns-clause-ahead
returns-clause-ahead g c =
    if_maps (g.D.Device.state c.args.dev.now).held _ _ (λ image next b over behind.
    pass_ahead b over c.args.self.now.entry c.in_ok-self.field-0 _ _ behind next) c.in_ok-self.ensures.next
