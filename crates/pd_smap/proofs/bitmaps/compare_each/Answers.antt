use Rattle.std.proofs.Common.{◌+◌, ◌-◌, arith, refl}
use Rattle.pd_smap.specs.Overflow.{comparison_state}
use Rattle.pd_smap.specs.Steps.{bits_from}
use Rattle.pd_smap.proofs.StepLemmas.{went_next, stopped_next, went_as, went_nowhere, still_attached}
use Rattle.pd_smap.proofs.CountLemmas.{on_err}
use Rattle.pd_smap.proofs.bitmaps.compare_each.Goals as goal

pub loop-e-init : goal.loop-e-init
loop-e-init g c = went_as (record { space = g.R.References.space c.args.refs.now; refs = g.R.References.refs c.args.refs.now; bits = bits_from c.args.base c.args.bitmap.now.0 }) _ _ 0 (c.args.from - c.args.from) (comparison_state (g.D.Device.state c.args.dev.now) c.args.overflow.now c.args.report.now) (comparison_state (g.D.Device.state c.args.dev.now) c.args.overflow.now c.args.report.now) refl (omega arith) (went_nowhere (record { space = g.R.References.space c.args.refs.now; refs = g.R.References.refs c.args.refs.now; bits = bits_from c.args.base c.args.bitmap.now.0 }) _ (comparison_state (g.D.Device.state c.args.dev.now) c.args.overflow.now c.args.report.now))

pub compare_block-requires-clause-attached : goal.compare_block-requires-clause-attached
compare_block-requires-clause-attached g c = still_attached _ _ c.loop-e.invariant.kept c.requires.attached

pub compare_block-requires-clause-room : goal.compare_block-requires-clause-room
compare_block-requires-clause-room g c = omega (arith, c.loop-e.invariant.total, c.requires.room, c.loop-e-test.true, c.loop-e.auto.e)

pub returns-in_err-compare_block-clause-stopped : goal.returns-in_err-compare_block-clause-stopped
returns-in_err-compare_block-clause-stopped g c =
    on_err c.from_residual.result _
    (stopped_next (record { space = g.R.References.space c.args.refs.now; refs = g.R.References.refs c.args.refs.now; bits = bits_from c.args.base c.args.bitmap.now.0 }) (c.args.base + c.args.from) (c.loop-e.e - c.args.from) (c.args.base + c.loop-e.e) 1 c.args.len (comparison_state (g.D.Device.state c.args.dev.now) c.args.overflow.now c.args.report.now) (comparison_state (g.D.Device.state c.loop-e.dev) c.loop-e.overflow c.loop-e.report) _
    (omega (arith, c.loop-e.auto.e)) (omega (arith, c.loop-e.auto.e, c.loop-e-test.true)) c.loop-e.invariant c.in_err-compare_block.ensures.stopped)

pub loop-e-preserved : goal.loop-e-preserved
loop-e-preserved g c =
    went_next (record { space = g.R.References.space c.args.refs.now; refs = g.R.References.refs c.args.refs.now; bits = bits_from c.args.base c.args.bitmap.now.0 }) (c.args.base + c.args.from) (c.loop-e.e - c.args.from) (c.args.base + c.loop-e.e) 1 (c.loop-e.e + 1 - c.args.from) (comparison_state (g.D.Device.state c.args.dev.now) c.args.overflow.now c.args.report.now) (comparison_state (g.D.Device.state c.loop-e.dev) c.loop-e.overflow c.loop-e.report) _
    (omega (arith, c.loop-e.auto.e)) (omega (arith, c.loop-e.auto.e)) c.loop-e.invariant c.in_ok-compare_block.ensures.went

pub returns-clause-went : goal.returns-clause-went
returns-clause-went g c =
    went_as (record { space = g.R.References.space c.args.refs.now; refs = g.R.References.refs c.args.refs.now; bits = bits_from c.args.base c.args.bitmap.now.0 }) _ _ (c.loop-e.e - c.args.from) c.args.len (comparison_state (g.D.Device.state c.args.dev.now) c.args.overflow.now c.args.report.now) (comparison_state (g.D.Device.state c.loop-e.dev) c.loop-e.overflow c.loop-e.report) refl (omega (arith, c.loop-e-test.false, c.loop-e.auto.e, c.loop-e.auto.e-end)) c.loop-e.invariant
