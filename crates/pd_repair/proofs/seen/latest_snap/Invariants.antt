use Rattle.std.proofs.Common.{◌≡◌, map, max, take}
use Rattle.std.specs.Prelude.{fold}
use Rattle.pd_salvage.specs.declared.saved.SavedDevice.{SavedDevice}
use Rattle.pd_repair.proofs.seen.latest_snap.Given as goal

abbrev pub invariant-loop-device : goal.invariant-loop-device
invariant-loop-device l = l.latest ≡ fold max 0 (map (λ (d : SavedDevice). d.details.snapped) (take l.device-index l.devices))
