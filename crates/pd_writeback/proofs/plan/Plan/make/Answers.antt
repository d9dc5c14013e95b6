use Rattle.std.proofs.Common.{arith}
use Rattle.pd_writeback.proofs.PlanLemmas.{no_blocks}
use Rattle.pd_writeback.proofs.plan.Plan.make.Goals as goal

pub returns-then-blocks-eq0-clause-plans : goal.returns-then-blocks-eq0-clause-plans
returns-then-blocks-eq0-clause-plans g c =
    let count = c.blocks-2.ensures.count in
    no_blocks (g.A.Device.state c.args.meta.now).held (g.A.Device.state c.args.meta.now).blocks (omega arith) (g.met.A.Device.measured c.args.meta.now) c.requires.sound
