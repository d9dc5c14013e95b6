use Rattle.pd_meaning_thin.proofs.JoinedLemmas.{taken_last}
use Rattle.pd_meaning_thin.proofs.joined.Joined.end.Goals as goal

pub returns-in-Some-clause-given : goal.returns-in-Some-clause-given
returns-in-Some-clause-given c = rw (c.in-Some.is, c.run.ensures) (taken_last c.in-Some.begun)
