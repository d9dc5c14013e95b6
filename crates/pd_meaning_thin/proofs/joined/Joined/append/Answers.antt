use Rattle.std.proofs.Common.{sym, ap}
use Rattle.pd_meaning_thin.specs.Runs.{given_runs}
use Rattle.pd_meaning_thin.proofs.AppendLemmas.{appended_apart, appended_on}
use Rattle.pd_meaning_thin.proofs.JoinedLemmas.{taken_last}
use Rattle.pd_meaning_thin.proofs.joined.Joined.append.Goals as goal

pub returns-then-continues_in-clause-given : goal.returns-then-continues_in-clause-given
returns-then-continues_in-clause-given c = λ rest.
    rw (c.in-Some-begun.is, c.in-Some.is) (ap given_runs (appended_on c.in-Some-begun.begun c.in-Some.next rest (sym c.if-continues_in.ensures)))

pub returns-else-continues_in-clause-given : goal.returns-else-continues_in-clause-given
returns-else-continues_in-clause-given c = λ rest.
    rw (c.in-Some-begun.is, c.in-Some.is, c.run.ensures) (appended_apart c.in-Some-begun.begun c.in-Some.next rest (sym c.if-continues_in.ensures))

pub returns-else-continues_in-clause-ended : goal.returns-else-continues_in-clause-ended
returns-else-continues_in-clause-ended c = rw (c.in-Some-begun.is, c.run.ensures) (taken_last c.in-Some-begun.begun)
