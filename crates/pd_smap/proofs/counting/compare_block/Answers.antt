use Rattle.pd_smap.specs.Overflow.{overflow_items, overflow_reads}
use Rattle.pd_smap.proofs.CountLemmas.{block_went, block_stopped, on_err}
use Rattle.pd_smap.proofs.counting.compare_block.Goals as goal

pub returns-in_err-stored-clause-stopped : goal.returns-in_err-stored-clause-stopped
returns-in_err-stored-clause-stopped g c =
    on_err c.from_residual.result _ (block_stopped _ _ _ (g.D.Device.state c.args.dev.now) (g.D.Device.state c.stored_count.new.dev)
    (overflow_items c.args.overflow.now) (overflow_items c.stored_count.new.overflow) (overflow_reads c.args.overflow.now) (overflow_reads c.stored_count.new.overflow) c.args.report.now
    c.in_err-stored.ensures.kept c.in_err-stored.ensures.faults c.in_err-stored.ensures.reads_failed)

pub returns-clause-went : goal.returns-clause-went
returns-clause-went g c =
    block_went (g.R.References.space c.args.refs.now) c.space.result (g.R.References.refs c.args.refs.now) c.args.base c.args.e c.count.result c.args.bitmap.now.0 c.in_ok-stored.stored
    (g.D.Device.state c.args.dev.now) (g.D.Device.state c.stored_count.new.dev)
    (overflow_items c.args.overflow.now) (overflow_items c.stored_count.new.overflow) (overflow_reads c.args.overflow.now) (overflow_reads c.stored_count.new.overflow) c.args.report.now c.add_count.new.report
    c.in_ok-stored.ensures.kept c.in_ok-stored.ensures.faults c.in_ok-stored.ensures.reads c.in_ok-stored.ensures.count c.in_ok-stored.ensures.ahead
    c.space.ensures c.count.ensures c.add_count.ensures.added c.add_count.ensures.total
