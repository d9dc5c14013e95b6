use Rattle.std.proofs.Common.{sym, ◌∙◌, arith}
use Rattle.pd_repair.specs.Snaps.{is_twice}
use Rattle.pd_repair.proofs.SnapLemmas.{shared_here, shared_later}
use Rattle.pd_repair.proofs.SnapLemmas.{none_shared}
use Rattle.pd_repair.proofs.seen.has_shared.Goals as goal

pub loop-i-preserved : goal.loop-i-preserved
loop-i-preserved c =
    let run = c.args.run in
    sym (shared_later c.args.counted.now run.target run.length c.loop-i.i c.times.result c.loop-i-test.true c.times.ensures (omega arith)) ∙ c.loop-i.invariant

pub returns-then-times-gt1 : goal.returns-then-times-gt1
returns-then-times-gt1 c =
    let run = c.args.run in
    sym (shared_here c.args.counted.now run.target run.length c.loop-i.i c.times.result c.loop-i-test.true c.times.ensures c.if-times-gt1.true) ∙ c.loop-i.invariant

pub returns : goal.returns
returns c =
    let run = c.args.run in
    sym (none_shared (is_twice c.args.counted.now) run.target run.length c.loop-i.i c.loop-i-test.false) ∙ c.loop-i.invariant
