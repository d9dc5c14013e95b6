use Rattle.std.proofs.Common.{map, drop}
use Rattle.pd_kept.specs.Kept.{IsLeft, lacks}
use Rattle.pd_kept.specs.Kept.{saved_pair}
use Rattle.pd_kept.specs.Kept.{pair_of}
use Rattle.pd_kept.proofs.latest.lacks_details.Given as goal

abbrev pub invariant-loop-device : goal.invariant-loop-device
invariant-loop-device l =
    IsLeft (lacks (map saved_pair l.devices) (map pair_of l.stored)) (map saved_pair (drop l.device-index l.devices)) (map pair_of (drop l.at l.stored))
