use Rattle.pd_smap.proofs.OverflowLeftLemmas.{count_first, count_missing, count_past}
use Rattle.pd_smap.proofs.overflow.Overflow.first_count.Goals as goal

pub returns-then-key-b : goal.returns-then-key-b
returns-then-key-b c = λ within image over ahead.
    count_first c.args.b c.in-Some.key c.in-Some.count over _ (rw c.in-Some.is at ahead) c.if-key-b.true

pub returns-else-key-b : goal.returns-else-key-b
returns-else-key-b c = λ within image over ahead.
    count_missing c.args.b c.in-Some.key c.in-Some.count over _ (rw c.in-Some.is at ahead) (rw c.in-Some.is at within) c.if-key-b.false

pub returns-in-None : goal.returns-in-None
returns-in-None c = λ within image over ahead. count_past c.args.b over (rw c.in-None.is at ahead)
