use Rattle.std.proofs.Common.{◌+◌, arith}
use Rattle.pd_words.proofs.NumberLemmas.{none_below, one_above, one_below}
use Rattle.pd_words.proofs.values.number_up_to.Goals as goal

pub returns-in-None-clause-number : goal.returns-in-None-clause-number
returns-in-None-clause-number c = none_below (c.args.most + 1) c.args.word.now (omega arith) c.in-None.ensures

pub returns-then-number-most-clause-number : goal.returns-then-number-most-clause-number
returns-then-number-most-clause-number c = one_below (c.args.most + 1) c.in-Some.number c.args.word.now (omega arith) c.in-Some.ensures

pub returns-else-number-most-clause-number : goal.returns-else-number-most-clause-number
returns-else-number-most-clause-number c = one_above (c.args.most + 1) c.in-Some.number c.args.word.now (omega arith) c.in-Some.ensures
