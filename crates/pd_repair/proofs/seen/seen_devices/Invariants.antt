use Rattle.std.proofs.Common.{◌≡◌, ◌++◌, drop}
use Rattle.std.specs.List.{AllByRecursion}
use Rattle.pd_meaning_thin.specs.Packed.{runs_from}
use Rattle.pd_restore.specs.ShapeNeed.{IsRunIn}
use Rattle.pd_repair.specs.Snaps.{is_twice, seen_devices}
use Rattle.pd_repair.proofs.seen.seen_devices.Given as goal

-- the devices so far were seen, and the place is behind their runs
abbrev pub invariant-loop-device : goal.invariant-loop-device
invariant-loop-device l = record {
  within : AllByRecursion (IsRunIn l.counted.size) (runs_from l.runs l.place);
  joined : l.seen.items ++ seen_devices (is_twice l.counted) (drop l.device-index l.devices) (runs_from l.runs l.place) ≡ seen_devices (is_twice l.counted) l.devices l.runs;
}
