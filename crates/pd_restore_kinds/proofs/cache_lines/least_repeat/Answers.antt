use Rattle.pd_restore_kinds.proofs.RepeatLemmas.{repeat, no_repeat}
use Rattle.pd_restore_kinds.proofs.cache_lines.least_repeat.Goals as goal
use Rattle.pd_restore_kinds.proofs.cache_lines.least_repeat.Goals.{then-sorted-i, else-sorted-i}

pub loop-i-preserved : goal.loop-i-preserved
loop-i-preserved c = elim c.if-sorted-i.branch [
  | then-sorted-i w ↦ repeat c.args.sorted.now c.loop-i.i c.args.end c.loop-i.least c.if-sorted-i.least c.loop-i.auto.i c.loop-i-test.true c.loop-i.invariant w.if-sorted-i.true (rw w.least-is w.min-least.ensures)
  | else-sorted-i w ↦ no_repeat c.args.sorted.now c.loop-i.i c.args.end c.loop-i.least c.if-sorted-i.least c.loop-i.auto.i c.loop-i-test.true c.loop-i.invariant w.if-sorted-i.false w.least-is
]
