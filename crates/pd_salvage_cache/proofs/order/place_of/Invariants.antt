use Rattle.std.proofs.Common.{◌≡◌, ◌+◌, drop}
use Rattle.pd_salvage_cache.specs.Fuller.{place_among}
use Rattle.pd_salvage_cache.proofs.order.place_of.Given as goal

-- the place isn't among those passed
abbrev pub invariant-loop-i : goal.invariant-loop-i
invariant-loop-i l = place_among l.one l.choices ≡ l.i + place_among l.one (drop l.i l.choices)
