use Rattle.pd_restore.proofs.ShapePartLemmas.{leaf_runs_within, need_exact, own_runs_within}
use Rattle.pd_restore.proofs.shape_need.need_of_shape.Goals as goal

pub over_of-requires-clause-runs : goal.over_of-requires-clause-runs
over_of-requires-clause-runs c = rw (c.head.ensures.head, c.leaf_runs.ensures) (leaf_runs_within c.args.saved.now c.head.ensures.sound)

pub over_of-requires-clause-others : goal.over_of-requires-clause-others
over_of-requires-clause-others c = rw (c.head.ensures.head, c.runs.ensures) (own_runs_within c.args.saved.now c.head.ensures.sound)

pub returns-then-need-lt18446744073709551615 : goal.returns-then-need-lt18446744073709551615
returns-then-need-lt18446744073709551615 c =
    need_exact c.args.saved.now c.in_ok-parts.parts c.in-Ok.over c.args.room c.need_of-need.result c.in_ok-parts.ensures
    (rw (c.leaf_runs.ensures, c.runs.ensures, c.head.ensures.head) at c.in-Ok.ensures) c.need_of-need.ensures c.if-need-lt18446744073709551615.true
