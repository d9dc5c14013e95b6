use Rattle.std.proofs.lemmas.Result.{err_from_is_err_and}
use Rattle.pd_query.proofs.QueryLemmas.{starts_as}
use Rattle.pd_uses.proofs.UnusedLemmas.{query_started}
use Rattle.pd_uses.proofs.unused.UnusedBlocksQuery.start.Goals as goal

pub returns-in_err-counts-clause-faults : goal.returns-in_err-counts-clause-faults
returns-in_err-counts-clause-faults g c =
    let p = err_from_is_err_and c.from_residual-in_err-counts.result c.from_residual-in_err-counts.ensures.1 in
    rw (p.1, p.2) (starts_as c.in_err-counts.field-0.0 _ _ (rw c.in_ok-s.ensures.faults at c.in_err-counts.ensures.faults))

pub returns-clause-over : goal.returns-clause-over
returns-clause-over g c =
    query_started (g.D.Device.state c.args.dev.now).held (g.D.Device.state c.super_to_ask.new.dev).held c.in_ok-s.ensures.kept.held
    c.stored_counts_are_references.ensures.whole c.stored_counts_are_references.ensures.overflow c.in_ok-s.s c.in_ok-counts.counts
    c.in_ok-counts.ensures.at c.in_ok-counts.ensures.end c.in_ok-s.ensures.fields c.in_ok-counts.ensures.left
