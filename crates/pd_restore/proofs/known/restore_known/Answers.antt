use Rattle.std.proofs.Common.{arith}
use Rattle.pd_restoring.proofs.EndingLemmas.{resting_short}
use Rattle.pd_restore.specs.Pools.{shape_content}
use Rattle.pd_restore.proofs.known.restore_known.Goals as goal

pub returns-then-need-room-clause-made : goal.returns-then-need-room-clause-made
returns-then-need-room-clause-made g c w gives needs =
    resting_short (shape_content w) c.args.need c.args.room (g.D.Device.state c.args.dev.now) c.requires.here needs c.if-need-room.true

pub restore_fitting-requires-clause-some : goal.restore_fitting-requires-clause-some
restore_fitting-requires-clause-some g c =
    let some = c.requires.some in
    record { shape = some.shape; gives = some.gives; fits = omega (arith, some.needs, c.if-need-room.false) }

pub returns-clause-made : goal.returns-clause-made
returns-clause-made g c w gives needs = c.restore_fitting.ensures.made w gives (omega (arith, needs, c.if-need-room.false))
