use Rattle.std.proofs.Common.{◌≡◌, ◌+◌}
use Rattle.pd_scan.specs.Pairs.{place_among}
use Rattle.std.proofs.Common.{drop}
use Rattle.pd_scan.proofs.states.place_of.Given as goal

-- the place isn't among those passed
abbrev pub invariant-loop-i : goal.invariant-loop-i
invariant-loop-i l = place_among l.state l.states ≡ l.i + place_among l.state (drop l.i l.states)
