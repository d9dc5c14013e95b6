use Rattle.std.proofs.Common.{sym, ap}
use Rattle.pd_meaning_thin.specs.Runs.{given_runs}
use Rattle.pd_meaning_thin.proofs.JoinedLemmas.{taken_on, taken_apart}
use Rattle.pd_meaning_thin.proofs.joined.Joined.take.Goals as goal

pub returns-then-is_followed_by : goal.returns-then-is_followed_by
returns-then-is_followed_by c = λ rest.
    rw c.in-Some.is (ap given_runs (taken_on c.in-Some.begun c.args.virt c.args.mapping rest (sym c.if-is_followed_by.ensures)))

pub returns-else-is_followed_by : goal.returns-else-is_followed_by
returns-else-is_followed_by c = λ rest.
    rw (c.in-Some.is, c.run.ensures, c.of.ensures.virt, c.of.ensures.target, c.of.ensures.more, c.of.ensures.time) (taken_apart c.in-Some.begun c.args.virt c.args.mapping rest (sym c.if-is_followed_by.ensures))
