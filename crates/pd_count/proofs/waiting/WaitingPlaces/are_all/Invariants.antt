use Rattle.std.proofs.Common.{◌≡◌, ℕ, ◌+◌, ◌<◌}
use Rattle.pd_count.specs.Counted.{waiting_number}
use Rattle.pd_count.proofs.waiting.WaitingPlaces.are_all.Given as goal

-- the places before this one have the number
abbrev pub invariant-loop-place : goal.invariant-loop-place
invariant-loop-place l = (k : ℕ) → l.at + k < l.place → waiting_number l.self (l.at + k) ≡ l.wanted
