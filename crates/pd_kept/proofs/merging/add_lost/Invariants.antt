use Rattle.std.proofs.Common.{ℕ, ◌-◌, List, length, map, drop}
use Rattle.pd_kept.specs.Kept.{Tells}
use Rattle.pd_kept.specs.Kept.{AreStored, pair_of}
use Rattle.pd_kept.proofs.merging.add_lost.Given as goal

abbrev pub invariant-loop-at : goal.invariant-loop-at
invariant-loop-at l =
    (all : List ℕ) (saved : List (ℕ × ℕ)) → Tells all l.initial.merged.items saved (map pair_of (drop l.from l.stored)) → AreStored l.end saved
    → Tells all l.merged.items saved (map pair_of (drop l.at l.stored))

abbrev pub decreases-loop-at : goal.decreases-loop-at
decreases-loop-at l = length l.stored - l.at
