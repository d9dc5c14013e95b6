use Rattle.std.proofs.Common.{nat_eq}
use Rattle.pd_settle.specs.Settled.{is_fit}
use Rattle.pd_scan.proofs.JudgeLemmas.{all_kept, taken_out}
use Rattle.pd_scan.proofs.tops.take_out.Goals as goal

pub returns-then-not-keeps-clause-fits : goal.returns-then-not-keeps-clause-fits
returns-then-not-keeps-clause-fits c = λ role d. taken_out c.args.fit.now c.args.b role d c.args.keeps c.requires c.if-not-keeps.true

pub returns-else-not-keeps-clause-fits : goal.returns-else-not-keeps-clause-fits
returns-else-not-keeps-clause-fits c = λ role d. all_kept (is_fit c.args.fit.now role d) (nat_eq d c.args.b) c.args.keeps c.if-not-keeps.false
