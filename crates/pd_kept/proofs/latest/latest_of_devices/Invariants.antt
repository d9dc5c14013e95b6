use Rattle.std.proofs.Common.{◌≡◌, max, take}
use Rattle.std.specs.List.{flat_map}
use Rattle.std.specs.Prelude.{fold}
use Rattle.pd_kept.specs.Kept.{own_times}
use Rattle.pd_kept.proofs.latest.latest_of_devices.Given as goal

abbrev pub invariant-loop-device : goal.invariant-loop-device
invariant-loop-device l = l.latest ≡ fold max 0 (flat_map own_times (take l.device-index l.devices))
