use Rattle.std.proofs.Common.{◌≡◌, ℕ, length, take, get_or}
use Rattle.pd_count.specs.Counted.{entered}
use Rattle.pd_count.proofs.few.copy.Given as goal

-- the numbers are those of the entries before this one
abbrev pub invariant-loop-i : goal.invariant-loop-i
invariant-loop-i l = (length l.numbers ≡ 16320) × ((k : ℕ) → get_or l.numbers k 0 ≡ entered (take l.i l.entries) k)
