use Rattle.std.proofs.Common.{◌≡◌, ℕ, ◌<◌, take}
use Rattle.pd_count.specs.Counted.{AreDigits, digits_number, entered}
use Rattle.pd_count.proofs.dense.spread.Given as goal

-- the digits are those of the entries before this one
abbrev pub invariant-loop-i : goal.invariant-loop-i
invariant-loop-i l = (AreDigits l.digits.items) × ((k : ℕ) → k < 16320 → digits_number l.digits.items k ≡ entered (take l.i l.entries) k)
