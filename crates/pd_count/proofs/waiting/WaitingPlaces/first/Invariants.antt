use Rattle.std.proofs.Common.{ℕ, ◌<◌, ◌≤◌}
use Rattle.pd_count.specs.Counted.{waiting_number}
use Rattle.pd_count.proofs.waiting.WaitingPlaces.first.Given as goal

abbrev pub invariant-loop-at : goal.invariant-loop-at
invariant-loop-at l = (k : ℕ) → l.from ≤ k → k < l.at → waiting_number l.self k < l.least
