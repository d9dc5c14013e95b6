use Rattle.std.proofs.Common.{sym, ap, ◌∙◌, arith}
use Rattle.pd_count.specs.Counted.{Counted, count_of}
use Rattle.pd_check.proofs.RefsLemmas.{counts_by_role}
use Rattle.pd_check.proofs.counter.RefCounter.counts.Goals as goal

-- where it has counted all that is reached, these are the counts
pub returns-clause-counted : goal.returns-clause-counted
returns-clause-counted c = λ graph image seen d within.
    ap (λ (t : Counted). count_of t d) c.settle.ensures
    ∙ seen.counted c.if-self.false d ∙ sym (counts_by_role graph image c.args.self.role d c.args.self.few (seen.one_role (omega (arith, within))))
