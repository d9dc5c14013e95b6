use Rattle.std.proofs.Common.{get_or, refl}
use Rattle.pd_kinds.proofs.KindsListLemmas.{all_front, all_rest}
use Rattle.pd_meaning_thin.specs.Packed.{runs_from}
use Rattle.pd_restore.specs.ShapeNeed.{IsRunIn}
use Rattle.pd_repair.specs.Snaps.{is_twice, seen_devices}
use Rattle.pd_repair.proofs.SnapLemmas.{devices_next, devices_over, no_saved}
use Rattle.pd_repair.proofs.seen.seen_devices.Goals as goal

pub loop-device-init : goal.loop-device-init
loop-device-init c = record {
  within = rw c.first-place.ensures c.requires;
  joined = rw (c.in_ok-seen.ensures.items, c.first-place.ensures) refl;
}

pub snap_of_runs-snapped-requires : goal.snap_of_runs-snapped-requires
snap_of_runs-snapped-requires c =
    all_front (IsRunIn c.args.counted.now.size) (get_or c.args.devices.now c.loop-device.device-index no_saved).runs (runs_from c.args.runs.now c.loop-device.place) c.loop-device.invariant.within

pub loop-device-preserved : goal.loop-device-preserved
loop-device-preserved c =
    let here = runs_from c.args.runs.now c.loop-device.place in
    let test = is_twice c.args.counted.now in
    let behind = c.snap_of_runs-snapped.ensures.behind in
    record {
      within = rw behind (all_rest (IsRunIn c.args.counted.now.size) (get_or c.args.devices.now c.loop-device.device-index no_saved).runs here c.loop-device.invariant.within);
      joined = rw c.in_ok-push.ensures.items
          (devices_next test c.args.devices.now c.loop-device.device-index no_saved c.loop-device.seen.items c.snap_of_runs-snapped.result here (runs_from c.args.runs.now c.snap_of_runs-snapped.new.place)
          (seen_devices test c.args.devices.now c.args.runs.now) c.loop-device-test.true c.snap_of_runs-snapped.ensures.snap behind c.loop-device.invariant.joined);
    }

pub returns : goal.returns
returns c =
    let test = is_twice c.args.counted.now in
    devices_over test c.args.devices.now c.loop-device.device-index c.loop-device.seen.items (runs_from c.args.runs.now c.loop-device.place) (seen_devices test c.args.devices.now c.args.runs.now)
    c.loop-device-test.false c.loop-device.invariant.joined
