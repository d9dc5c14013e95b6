use Rattle.std.proofs.Common.{◌<◌, length, arith}
use Rattle.pd_kept.proofs.LackingLemmas.{left_past, left_stops}
use Rattle.pd_kept.proofs.TellingLemmas.{no_stored}
use Rattle.pd_kept.proofs.latest.behind_lesser.Goals as goal

pub loop-at-preserved : goal.loop-at-preserved
loop-at-preserved c = λ lacking saved left ascend.
    let within : c.loop-at.at < length c.args.stored.now = omega arith in
    left_past c.args.stored.now c.loop-at.at no_stored within lacking c.args.id saved c.if-stored-at.true ascend (c.loop-at.invariant lacking saved left ascend)

pub returns-else-stored-at : goal.returns-else-stored-at
returns-else-stored-at c = λ lacking saved left ascend.
    let within : c.loop-at.at < length c.args.stored.now = omega arith in
    left_stops c.args.stored.now c.loop-at.at no_stored within lacking c.args.id saved c.if-stored-at.false (c.loop-at.invariant lacking saved left ascend)
