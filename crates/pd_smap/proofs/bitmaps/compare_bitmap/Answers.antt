use Rattle.std.proofs.Common.{◌+◌, ◌-◌, ◌*◌, ◌/◌, arith, refl}
use Rattle.pd_smap.specs.Overflow.{comparison_state}
use Rattle.pd_smap.specs.Steps.{bits_from}
use Rattle.pd_smap.proofs.StepLemmas.{went_next, stopped_next, went_nowhere, ok_maps, err_maps, still_attached}
use Rattle.pd_smap.proofs.CountLemmas.{on_err}
use Rattle.pd_smap.proofs.bitmaps.compare_bitmap.Goals as goal

pub compare_each-requires-clause-attached : goal.compare_each-requires-clause-attached
compare_each-requires-clause-attached g c = still_attached _ _ c.in_ok-compare_groups.ensures.went.kept c.requires.attached

pub compare_each-requires-clause-room : goal.compare_each-requires-clause-room
compare_each-requires-clause-room g c = omega (arith, c.in_ok-compare_groups.ensures.went.total, c.requires.room)

pub returns-in_err-compare_groups-clause-stopped : goal.returns-in_err-compare_groups-clause-stopped
returns-in_err-compare_groups-clause-stopped g c =
    on_err c.from_residual.result _
    (stopped_next (record { space = g.R.References.space c.args.refs.now; refs = g.R.References.refs c.args.refs.now; bits = bits_from c.args.base c.args.bitmap.now.0 }) c.args.base 0 c.args.base (32 * (c.args.len / 32)) c.args.len (comparison_state (g.D.Device.state c.args.dev.now) c.args.overflow.now c.args.report.now) (comparison_state (g.D.Device.state c.args.dev.now) c.args.overflow.now c.args.report.now) _
    (omega arith) (omega arith) (went_nowhere (record { space = g.R.References.space c.args.refs.now; refs = g.R.References.refs c.args.refs.now; bits = bits_from c.args.base c.args.bitmap.now.0 }) _ (comparison_state (g.D.Device.state c.args.dev.now) c.args.overflow.now c.args.report.now)) c.in_err-compare_groups.ensures.stopped)

pub returns-clause-went : goal.returns-clause-went
returns-clause-went g c =
    ok_maps c.compare_each.result _ _
    (went_next (record { space = g.R.References.space c.args.refs.now; refs = g.R.References.refs c.args.refs.now; bits = bits_from c.args.base c.args.bitmap.now.0 }) c.args.base (32 * (c.args.len / 32)) (c.args.base + 32 * (c.args.len / 32)) (c.args.len - 32 * (c.args.len / 32)) c.args.len (comparison_state (g.D.Device.state c.args.dev.now) c.args.overflow.now c.args.report.now) (comparison_state (g.D.Device.state c.compare_groups.new.dev) c.compare_groups.new.overflow c.compare_groups.new.report) _
    refl (omega arith) c.in_ok-compare_groups.ensures.went) c.compare_each.ensures.went

pub returns-clause-stopped : goal.returns-clause-stopped
returns-clause-stopped g c =
    err_maps c.compare_each.result _ _
    (stopped_next (record { space = g.R.References.space c.args.refs.now; refs = g.R.References.refs c.args.refs.now; bits = bits_from c.args.base c.args.bitmap.now.0 }) c.args.base (32 * (c.args.len / 32)) (c.args.base + 32 * (c.args.len / 32)) (c.args.len - 32 * (c.args.len / 32)) c.args.len (comparison_state (g.D.Device.state c.args.dev.now) c.args.overflow.now c.args.report.now) (comparison_state (g.D.Device.state c.compare_groups.new.dev) c.compare_groups.new.overflow c.compare_groups.new.report) _
    refl (omega arith) c.in_ok-compare_groups.ensures.went) c.compare_each.ensures.stopped
