use Rattle.std.proofs.Common.{ℕ, ◌<◌, ◌≤◌}
use Rattle.pd_count.specs.Counted.{place_at}
use Rattle.pd_count.proofs.EntryLemmas.{number_at}
use Rattle.pd_count.proofs.few.first_entered.Given as goal

-- the entries before this one have less, from the place on
abbrev pub invariant-loop-i : goal.invariant-loop-i
invariant-loop-i l = (j : ℕ) → j < l.i → l.from ≤ place_at l.entries j → number_at l.entries j < l.least
