use Rattle.std.proofs.Common.{◌≡◌, ℕ, ◌<◌, length, get_or}
use Rattle.pd_count.specs.Counted.{waiting_number}
use Rattle.pd_count.proofs.waiting.WaitingPlaces.copy.Given as goal

abbrev pub invariant-loop-at : goal.invariant-loop-at
invariant-loop-at l = (length l.numbers ≡ 16320) × ((k : ℕ) → k < l.at → get_or l.numbers k 0 ≡ waiting_number l.self k)
