use Rattle.std.proofs.Common.{arith}
use Rattle.pd_count.proofs.EntryLemmas.{at_splits}
use Rattle.pd_count.proofs.few.begin.Goals as goal

pub returns-in-Ok-clause-before : goal.returns-in-Ok-clause-before
returns-in-Ok-clause-before c = (at_splits c.args.entries.now c.requires.entries c.args.from c.in-Ok.i c.in-Ok.ensures.found).0

pub returns-in-Ok-clause-behind : goal.returns-in-Ok-clause-behind
returns-in-Ok-clause-behind c = (at_splits c.args.entries.now c.requires.entries c.args.from c.in-Ok.i c.in-Ok.ensures.found).1

pub returns-in-Err-clause-before : goal.returns-in-Err-clause-before
returns-in-Err-clause-before c = c.in-Err.ensures.absent.before

pub returns-in-Err-clause-behind : goal.returns-in-Err-clause-behind
returns-in-Err-clause-behind c = λ j from within. let more = c.in-Err.ensures.absent.behind j from within in omega arith
