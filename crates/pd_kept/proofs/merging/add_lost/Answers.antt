use Rattle.std.proofs.Common.{◌<◌, length, arith}
use Rattle.pd_kept.proofs.TellingLemmas.{lost_more, lost_stops, no_stored}
use Rattle.pd_kept.proofs.merging.add_lost.Goals as goal

pub loop-at-preserved : goal.loop-at-preserved
loop-at-preserved c = λ all saved tells ascend.
    let within : c.loop-at.at < length c.args.stored.now = omega arith in
    lost_more c.args.stored.now c.loop-at.at no_stored within all c.args.end saved c.loop-at.merged.items c.push.new.self.items c.if-next-end.false ascend c.in_ok-push.ensures.items
    (c.loop-at.invariant all saved tells ascend)

pub returns-then-next-end : goal.returns-then-next-end
returns-then-next-end c = λ all saved tells ascend.
    let within : c.loop-at.at < length c.args.stored.now = omega arith in
    lost_stops c.args.stored.now c.loop-at.at no_stored within all c.args.end saved c.loop-at.merged.items c.if-next-end.true (c.loop-at.invariant all saved tells ascend)
