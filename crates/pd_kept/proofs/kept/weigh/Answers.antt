use Rattle.std.proofs.Common.{List, ap, length}
use Rattle.pd_laid.specs.Shape.{pool_of}
use Rattle.pd_salvage.specs.declared.saved_shape.ShapedDevice.{ShapedDevice}
use Rattle.pd_salvage.specs.SavedShape.{held_shape}
use Rattle.pd_kept.proofs.WeighingLemmas.{pool_room, shape_room}
use Rattle.pd_kept.proofs.WeighingLemmas.{saved_ascend}
use Rattle.pd_kept.proofs.kept.weigh.Goals as goal

pub merge-requires-clause-saved : goal.merge-requires-clause-saved
merge-requires-clause-saved c = rw c.devices-devices.ensures (saved_ascend c.args.saved.now c.head.ensures.sound)

pub returns-in-Ok : goal.returns-in-Ok
returns-in-Ok c =
    let w = held_shape c.args.saved.now in
    record {
      lines = rw c.devices-devices.ensures at c.in-Ok.ensures;
      devices = ap (λ (ds : List ShapedDevice). length ds) c.devices-devices.ensures;
      mappings = rw c.devices-devices.ensures at c.in_ok-mappings.ensures;
      need = pool_room (pool_of w) c.in_ok-plain.plain c.in_ok-need.need c.in_ok-plain.ensures c.in_ok-need.ensures.least;
      shared_need = shape_room w c.in_ok-shared.shared c.in_ok-shared_need.shared_need c.in_ok-shared.ensures c.in_ok-shared_need.ensures.least;
    }
