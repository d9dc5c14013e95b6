use Rattle.std.proofs.Common.{ℕ, ◌-◌, Bool, List, length, map, drop}
use Rattle.pd_kept.specs.Kept.{IsLeft}
use Rattle.pd_kept.specs.Kept.{AreStored, pair_of}
use Rattle.pd_kept.proofs.latest.behind_lesser.Given as goal

abbrev pub invariant-loop-at : goal.invariant-loop-at
invariant-loop-at l =
    (lacking : Bool) (saved : List (ℕ × ℕ)) → IsLeft lacking saved (map pair_of (drop l.from l.stored)) → AreStored l.id saved → IsLeft lacking saved (map pair_of (drop l.at l.stored))

abbrev pub decreases-loop-at : goal.decreases-loop-at
decreases-loop-at l = length l.stored - l.at
