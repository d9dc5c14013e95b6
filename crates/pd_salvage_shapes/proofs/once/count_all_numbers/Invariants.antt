use Rattle.std.proofs.Common.{◌≡◌, length, take}
use Rattle.pd_salvage_shapes.specs.Once.{all_met}
use Rattle.pd_salvage_shapes.specs.SeenShape.{AreUses}
use Rattle.pd_salvage_shapes.proofs.once.count_all_numbers.Given as goal

-- what the devices before this one met was counted
abbrev pub invariant-loop-device : goal.invariant-loop-device
invariant-loop-device l = record {
  counted : AreUses (all_met (take l.device-index l.seen)) l.times;
  same : length l.times ≡ length l.initial.times;
}
