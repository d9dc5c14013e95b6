use Rattle.pd_uses.specs.declared.hit_runs.HitRun.{HitRun}
use Rattle.pd_uses.proofs.OrderLemmas.{rises_none, runs_rise}
use Rattle.pd_uses.proofs.RunLemmas.{no_runs}
use Rattle.pd_uses.proofs.in_order.runs_end.Goals as goal

pub loop-run-init : goal.loop-run-init
loop-run-init c = λ id. rw no_runs (rises_none c.args.at c.args.end)

pub loop-run-preserved : goal.loop-run-preserved
loop-run-preserved c = λ id.
    let none : HitRun = record { block = 0; virt = 0; number = 0 } in
    runs_rise id c.args.at c.args.end c.loop-run.last c.in-Some.next c.args.runs.now c.loop-run.run-index none c.loop-run-test.true (c.loop-run.invariant id) (c.in-Some.ensures id)
