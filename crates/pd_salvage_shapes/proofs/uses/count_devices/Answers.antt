use Rattle.std.proofs.Common.{take, ◌∙◌, arith}
use Rattle.pd_salvage_shapes.specs.SeenShape.{all_mets, leaves_of}
use Rattle.pd_salvage_shapes.proofs.LeafTable.{device_uses}
use Rattle.pd_salvage_shapes.proofs.uses.count_devices.Goals as goal

pub loop-device-preserved : goal.loop-device-preserved
loop-device-preserved c = record {
  counted =
      device_uses c.count_device.new.uses c.args.notes.now c.args.seen.now c.loop-device.device-index c.device-item.result (omega arith) c.device-item.is
      (rw (c.as_slice.ensures.value ∙ c.in_ok-met.ensures) at (c.count_device.ensures.counted (leaves_of (all_mets c.args.notes.now (take c.loop-device.device-index c.args.seen.now))) c.loop-device.invariant.counted));
  same = c.count_device.ensures.same ∙ c.loop-device.invariant.same;
}
