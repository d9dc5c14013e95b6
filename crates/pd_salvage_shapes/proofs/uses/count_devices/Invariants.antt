use Rattle.std.proofs.Common.{◌≡◌, length, take}
use Rattle.pd_salvage_shapes.specs.SeenShape.{AreUses, all_mets, leaves_of}
use Rattle.pd_salvage_shapes.proofs.uses.count_devices.Given as goal

-- what the devices before this one met was counted
abbrev pub invariant-loop-device : goal.invariant-loop-device
invariant-loop-device l = record {
  counted : AreUses (leaves_of (all_mets l.notes (take l.device-index l.seen))) l.uses;
  same : length l.uses ≡ length l.initial.uses;
}
