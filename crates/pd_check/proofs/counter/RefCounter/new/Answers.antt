use Rattle.pd_check.proofs.CounterLemmas.{no_pairs_counted}
use Rattle.pd_check.proofs.counter.RefCounter.new.Goals as goal

pub returns-clause-unseen : goal.returns-clause-unseen
returns-clause-unseen c = λ graph image same names. record {
  one_role = rw same names;
  counted = λ enough. no_pairs_counted graph image c.args.role c.in_ok-new.field-0 c.in_ok-new.ensures.none;
}
