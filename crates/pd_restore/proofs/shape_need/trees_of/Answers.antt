use Rattle.std.proofs.Common.{refl}
use Rattle.pd_restore.proofs.ShapeNeedLemmas.{devices_all, devices_more, no_devices}
use Rattle.pd_restore.proofs.shape_need.trees_of.Goals as goal

pub loop-device-init : goal.loop-device-init
loop-device-init c = no_devices c.args.pieces.now c.args.runs.now _ refl refl c.first.ensures

pub loop-device-preserved : goal.loop-device-preserved
loop-device-preserved c =
    devices_more c.args.devices.now c.args.pieces.now c.args.runs.now c.loop-device.device-index _ c.loop-device.counts c.in-Some.more c.loop-device-test.true c.loop-device.invariant c.in-Some.ensures

pub returns : goal.returns
returns c = (devices_all c.args.devices.now c.args.pieces.now c.args.runs.now c.loop-device.device-index c.loop-device.counts c.loop-device-test.false c.loop-device.invariant).trees
