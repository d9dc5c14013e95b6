use Rattle.std.proofs.Common.{◌^◌, arith}
use Rattle.pd_meaning_thin.proofs.ChunkLemmas.{counted-more}
use Rattle.pd_meaning_thin.proofs.chunks.Chunks.begin.Goals as goal

pub returns-clause-counted : goal.returns-clause-counted
returns-clause-counted c =
    let few = c.if-count-gt-MOST_RUNS.false in
    rw (c.replace-done.ensures.after, c.in_ok-pack_run.ensures.packed)
    (counted-more (2 ^ 62) c.args.count c.in_ok-tail.tail.items c.args.before c.args.run (omega (arith, few)))
