use Rattle.std.proofs.Common.{◌+◌, ◌*◌, arith, refl}
use Rattle.pd_smap.specs.Overflow.{comparison_state}
use Rattle.pd_smap.specs.Steps.{bits_from}
use Rattle.pd_smap.proofs.StepLemmas.{went_next, stopped_next, went_as, went_nowhere, still_attached}
use Rattle.pd_smap.proofs.CountLemmas.{on_err}
use Rattle.pd_smap.proofs.bitmaps.compare_groups.Goals as goal

pub loop-g-init : goal.loop-g-init
loop-g-init g c = went_nowhere (record { space = g.R.References.space c.args.refs.now; refs = g.R.References.refs c.args.refs.now; bits = bits_from c.args.base c.args.bitmap.now.0 }) _ (comparison_state (g.D.Device.state c.args.dev.now) c.args.overflow.now c.args.report.now)

pub compare_group-requires-clause-attached : goal.compare_group-requires-clause-attached
compare_group-requires-clause-attached g c = still_attached _ _ c.loop-g.invariant.kept c.requires.attached

pub compare_group-requires-clause-room : goal.compare_group-requires-clause-room
compare_group-requires-clause-room g c = omega (arith, c.loop-g.invariant.total, c.requires.room, c.loop-g-test.true)

pub returns-in_err-compare_group-clause-stopped : goal.returns-in_err-compare_group-clause-stopped
returns-in_err-compare_group-clause-stopped g c =
    on_err c.from_residual.result _
    (stopped_next (record { space = g.R.References.space c.args.refs.now; refs = g.R.References.refs c.args.refs.now; bits = bits_from c.args.base c.args.bitmap.now.0 }) c.args.base (32 * c.loop-g.g) (c.args.base + 32 * c.loop-g.g) 32 (32 * c.args.groups) (comparison_state (g.D.Device.state c.args.dev.now) c.args.overflow.now c.args.report.now) (comparison_state (g.D.Device.state c.loop-g.dev) c.loop-g.overflow c.loop-g.report) _
    refl (omega (arith, c.loop-g-test.true)) c.loop-g.invariant c.in_err-compare_group.ensures.stopped)

pub loop-g-preserved : goal.loop-g-preserved
loop-g-preserved g c =
    went_next (record { space = g.R.References.space c.args.refs.now; refs = g.R.References.refs c.args.refs.now; bits = bits_from c.args.base c.args.bitmap.now.0 }) c.args.base (32 * c.loop-g.g) (c.args.base + 32 * c.loop-g.g) 32 (32 * (c.loop-g.g + 1)) (comparison_state (g.D.Device.state c.args.dev.now) c.args.overflow.now c.args.report.now) (comparison_state (g.D.Device.state c.loop-g.dev) c.loop-g.overflow c.loop-g.report) _
    refl (omega arith) c.loop-g.invariant c.in_ok-compare_group.ensures.went

pub returns-clause-went : goal.returns-clause-went
returns-clause-went g c =
    went_as (record { space = g.R.References.space c.args.refs.now; refs = g.R.References.refs c.args.refs.now; bits = bits_from c.args.base c.args.bitmap.now.0 }) _ _ (32 * c.loop-g.g) (32 * c.args.groups) (comparison_state (g.D.Device.state c.args.dev.now) c.args.overflow.now c.args.report.now) (comparison_state (g.D.Device.state c.loop-g.dev) c.loop-g.overflow c.loop-g.report) refl (omega (arith, c.loop-g-test.false, c.loop-g.auto.g-end)) c.loop-g.invariant
