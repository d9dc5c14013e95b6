use Rattle.pd_smap.proofs.CountLemmas.{count_beyond}
use Rattle.pd_smap.proofs.counting.stored_count.Goals as goal

pub returns-else-bits-lt3-clause-count : goal.returns-else-bits-lt3-clause-count
returns-else-bits-lt3-clause-count g c =
    count_beyond c.count.result (g.D.Device.state c.args.dev.now).held c.args.b _ _ _ c.two_bits-bits.ensures.count c.if-bits-lt3.false c.count.ensures.count
