use Rattle.std.proofs.Common.{◌+◌, ◌∙◌, inr, arith}
use Rattle.pd_smwrite.proofs.OwnLemmas.{own_none, own_then}
use Rattle.pd_smwrite.proofs.meta.count_own.Goals as goal

pub loop-i-init : goal.loop-i-init
loop-i-init c = own_none c.args.place c.args.counts.now

pub add_one-requires-clause-none : goal.add_one-requires-clause-none
add_one-requires-clause-none c =
    c.loop-i.invariant.others (c.args.place + c.loop-i.i) (inr (omega arith)) ∙ c.requires.none (c.args.place + c.loop-i.i) (omega arith) (omega arith)

pub loop-i-preserved : goal.loop-i-preserved
loop-i-preserved c = own_then c.args.place c.loop-i.i 1 c.loop-i.invariant c.in_ok-add_one.ensures.counted
