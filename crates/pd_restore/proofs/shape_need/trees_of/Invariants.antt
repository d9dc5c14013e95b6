use Rattle.std.proofs.Common.{take}
use Rattle.pd_restore.specs.ShapeNeed.{CountsDevices}
use Rattle.pd_restore.proofs.shape_need.trees_of.Given as goal

abbrev pub invariant-loop-device : goal.invariant-loop-device
invariant-loop-device l = CountsDevices (take l.device-index l.devices) l.pieces l.runs l.counts
