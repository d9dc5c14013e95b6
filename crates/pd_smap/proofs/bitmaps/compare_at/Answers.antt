use Rattle.std.proofs.Common.{◌+◌, ◌-◌, ◌*◌, min, arith}
use Rattle.pd_smap.specs.Overflow.{overflow_items, overflow_reads}
use Rattle.pd_smap.specs.Steps.{bits_from, bits_at}
use Rattle.pd_smap.proofs.StepLemmas.{ok_maps, err_maps}
use Rattle.pd_smap.proofs.CountLemmas.{on_err}
use Rattle.pd_smap.proofs.bitmaps.compare_at.Goals as goal
use Rattle.pd_smap.proofs.CountLemmas.{block_stopped}
use Rattle.pd_smap.proofs.CountLemmas.{read_then, read_stopped, same_bits, before_reading}

pub returns-in_err-read_bitmap-clause-stopped : goal.returns-in_err-read_bitmap-clause-stopped
returns-in_err-read_bitmap-clause-stopped g c =
    on_err c.from_residual.result _ (block_stopped (record { space = g.R.References.space c.args.refs.now; refs = g.R.References.refs c.args.refs.now; bits = bits_at c.args.place c.args.i }) _ _ (g.D.Device.state c.args.dev.now) (g.D.Device.state c.read_bitmap.new.dev)
    (overflow_items c.args.overflow.now) (overflow_items c.args.overflow.now) (λ image. overflow_reads c.args.overflow.now image + 1) (overflow_reads c.args.overflow.now) c.args.report.now
    c.in_err-read_bitmap.ensures.kept c.in_err-read_bitmap.ensures.faults (before_reading (g.D.Device.state c.args.dev.now) (g.D.Device.state c.read_bitmap.new.dev) (overflow_reads c.args.overflow.now) (omega (arith, c.in_err-read_bitmap.ensures.reads))))

pub returns-clause-went : goal.returns-clause-went
returns-clause-went g c =
    ok_maps c.compare_bitmap.result _ _
    (λ went. read_then (g.R.References.space c.args.refs.now) (g.R.References.refs c.args.refs.now) (bits_from (16320 * c.args.i) c.read_bitmap.new.bitmap.0) (bits_at c.args.place c.args.i) (16320 * c.args.i) (min 16320 (c.args.blocks - 16320 * c.args.i)) c.min-len.result
    (g.D.Device.state c.args.dev.now) (g.D.Device.state c.read_bitmap.new.dev) c.args.report.now (overflow_items c.args.overflow.now) (overflow_reads c.args.overflow.now) _
    c.in_ok-read_bitmap.ensures.kept c.in_ok-read_bitmap.ensures.faults c.in_ok-read_bitmap.ensures.reads (same_bits c.args.place c.args.i c.min-len.result c.read_bitmap.new.bitmap.0 (g.D.Device.state c.args.dev.now).held c.in_ok-read_bitmap.ensures.counts) (omega (arith, c.min-len.ensures)) went)
    c.compare_bitmap.ensures.went

pub returns-clause-stopped : goal.returns-clause-stopped
returns-clause-stopped g c =
    err_maps c.compare_bitmap.result _ _
    (λ stopped. read_stopped (g.R.References.space c.args.refs.now) (g.R.References.refs c.args.refs.now) (bits_from (16320 * c.args.i) c.read_bitmap.new.bitmap.0) (bits_at c.args.place c.args.i) (16320 * c.args.i) (min 16320 (c.args.blocks - 16320 * c.args.i)) c.min-len.result
    (g.D.Device.state c.args.dev.now) (g.D.Device.state c.read_bitmap.new.dev) c.args.report.now (overflow_items c.args.overflow.now) (overflow_reads c.args.overflow.now) _
    c.in_ok-read_bitmap.ensures.kept c.in_ok-read_bitmap.ensures.faults c.in_ok-read_bitmap.ensures.reads (same_bits c.args.place c.args.i c.min-len.result c.read_bitmap.new.bitmap.0 (g.D.Device.state c.args.dev.now).held c.in_ok-read_bitmap.ensures.counts) (omega (arith, c.min-len.ensures)) stopped)
    c.compare_bitmap.ensures.stopped
