use Rattle.std.proofs.Common.{map, drop}
use Rattle.pd_kept.specs.Kept.{Tells, lines_at_all, saved_pair}
use Rattle.pd_kept.specs.Kept.{pair_of}
use Rattle.pd_kept.proofs.merging.merge.Given as goal

abbrev pub invariant-loop-device : goal.invariant-loop-device
invariant-loop-device l =
    Tells (lines_at_all (map saved_pair l.devices) (map pair_of l.stored)) l.merged.items (map saved_pair (drop l.device-index l.devices)) (map pair_of (drop l.at l.stored))
