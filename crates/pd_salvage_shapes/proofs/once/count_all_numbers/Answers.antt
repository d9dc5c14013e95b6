use Rattle.std.proofs.Common.{take, ◌∙◌, arith}
use Rattle.pd_salvage_shapes.specs.Once.{all_met}
use Rattle.pd_salvage_shapes.proofs.OnceLemmas.{devices_next}
use Rattle.pd_salvage_shapes.proofs.once.count_all_numbers.Goals as goal

pub loop-device-preserved : goal.loop-device-preserved
loop-device-preserved c = record {
  counted =
      devices_next c.args.seen.now c.count_numbers.new.times c.loop-device.device-index c.device-item.result (omega arith) c.device-item.is
      (rw (c.as_slice.ensures.value ∙ c.in_ok-met.ensures) at (c.count_numbers.ensures.counted (all_met (take c.loop-device.device-index c.args.seen.now)) c.loop-device.invariant.counted));
  same = c.count_numbers.ensures.same ∙ c.loop-device.invariant.same;
}
