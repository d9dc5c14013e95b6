use Rattle.std.proofs.Common.{◌≡◌, ◌≤◌, eqb, map}
use Rattle.std.specs.List.{count_by, range_with_len}
use Rattle.pd_count.specs.Counted.{waiting_number}
use Rattle.pd_count.proofs.waiting.WaitingPlaces.zeros.Given as goal

abbrev pub invariant-loop-at : goal.invariant-loop-at
invariant-loop-at l = (l.zeros ≡ count_by (λ n. eqb n 0) (map (waiting_number l.self) (range_with_len 0 l.at))) × (l.zeros ≤ l.at)
