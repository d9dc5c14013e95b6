use Rattle.std.proofs.Common.{◌≡◌, ℕ, ◌<◌}
use Rattle.pd_count.specs.Counted.{AreDigits, digits_number, number_with}
use Rattle.pd_count.proofs.waiting.WaitingPlaces.counted.Given as goal

-- the places before this one are counted
abbrev pub invariant-loop-i : goal.invariant-loop-i
invariant-loop-i l = (AreDigits l.digits.items) × ((k : ℕ) → k < 16320 → digits_number l.digits.items k ≡ number_with l.self l.i k)
