use Rattle.std.proofs.Common.{eq-eqb}
use Rattle.std.proofs.lemmas.Bool.{ne_eqb}
use Rattle.pd_kinds.specs.Whole.{array_whole, writeset_array}
use Rattle.pd_check.proofs.SharedLemmas.{charges_none}
use Rattle.pd_check.proofs.ArrayRules.{one_array}
use Rattle.pd_era.proofs.whole.check_current.Goals as goal

pub returns-else-root-ne0-clause-charges : goal.returns-else-root-ne0-clause-charges
returns-else-root-ne0-clause-charges c = λ graph image has marked reached. rw (eq-eqb c.args.root 0 c.if-root-ne0.false) (charges_none c.args.audit.now)

pub returns-then-root-ne0-clause-charges : goal.returns-then-root-ne0-clause-charges
returns-then-root-ne0-clause-charges c = λ graph image has marked reached.
    rw (ne_eqb c.args.root 0 c.if-root-ne0.true)
    (one_array (array_whole graph image) (writeset_array c.args.number c.args.root) c.args.audit.now c.check_writeset.new.audit
    (c.check_writeset.ensures.charges graph image has marked (reached c.if-root-ne0.true)))
