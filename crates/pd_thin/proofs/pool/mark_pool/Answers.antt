use Rattle.pd_thin.proofs.WholeTests.{on_ok, pool_told, first_reads, both_reads}
use Rattle.pd_thin.proofs.pool.mark_pool.Goals as goal

pub returns-in_err-mark_devices-clause-reads : goal.returns-in_err-mark_devices-clause-reads
returns-in_err-mark_devices-clause-reads g c =
    first_reads _ c.args.b.now.0 c.read_thin_super-fields.result c.args.audit.now _ _ c.read_thin_super-fields.ensures c.ordered_pools_are_ready.ensures
    c.two_trees_have_no_more_nodes.ensures c.mark_devices.ensures.reads

pub returns-clause-charges : goal.returns-clause-charges
returns-clause-charges g c =
    on_ok c.mark_held.result
    (λ copies.
    pool_told _ _ c.args.b.now.0 c.read_thin_super-fields.result c.args.audit.now c.mark_noted.new.audit c.mark_devices.new.audit c.mark_held.new.audit
    c.mark_devices.ensures.kept.held c.read_thin_super-fields.ensures c.ordered_pools_are_ready.ensures c.mark_noted.ensures.charges c.mark_noted.ensures.rules
    c.mark_devices.ensures.rules c.in_ok-mark_devices.ensures.charges copies)
    c.mark_held.ensures.charges

pub returns-clause-reads : goal.returns-clause-reads
returns-clause-reads g c =
    both_reads _ _ c.args.b.now.0 c.read_thin_super-fields.result c.args.audit.now _ _ _ c.mark_devices.ensures.kept.held c.read_thin_super-fields.ensures
    c.ordered_pools_are_ready.ensures c.two_trees_have_no_more_nodes.ensures c.mark_devices.ensures.reads c.mark_held.ensures.none c.mark_held.ensures.reads
