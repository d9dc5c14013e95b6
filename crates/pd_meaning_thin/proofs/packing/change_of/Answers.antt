use Rattle.std.proofs.Common.{sym, arith}
use Rattle.pd_meaning_thin.proofs.PackedLemmas.{change-down, change-up}
use Rattle.pd_meaning_thin.proofs.packing.change_of.Goals as goal

pub returns-then-time-before-clause-is : goal.returns-then-time-before-clause-is
returns-then-time-before-clause-is c = rw c.from.ensures (sym (change-up c.args.before c.args.time (omega arith) (omega arith)))

pub returns-else-time-before-clause-is : goal.returns-else-time-before-clause-is
returns-else-time-before-clause-is c = rw c.from-else-time-before.ensures (sym (change-down c.args.before c.args.time (omega arith) (omega arith)))
