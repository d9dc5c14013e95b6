use Rattle.std.proofs.Common.{arith}
use Rattle.pd_shrink.proofs.MovingLemmas.{pair_all, pair_more}
use Rattle.pd_shrink.proofs.moves.pair_up.Goals as goal

pub loop-i-preserved : goal.loop-i-preserved
loop-i-preserved c =
    let sources = c.args.sources.now in
    let free = c.args.free.now in
    let i = c.loop-i.i in
    let enough = c.requires in
    let within = c.loop-i-test.true in
    pair_more sources free i c.loop-i.moves.items c.push.new.self.items (omega arith) (omega arith) c.in_ok-push.ensures.items c.loop-i.invariant

pub returns : goal.returns
returns c =
    let done = c.loop-i-test.false in
    pair_all c.args.sources.now c.args.free.now c.loop-i.i c.loop-i.moves.items (omega arith) c.loop-i.invariant
