use Rattle.std.proofs.Common.{◌≡◌, filter, take}
use Rattle.pd_uses.specs.FoundUses.{visits_uses}
use Rattle.pd_uses.specs.Uses.{is_within}
use Rattle.pd_uses.proofs.found.Found.uses_in.Given as goal

abbrev pub invariant-loop-visit : goal.invariant-loop-visit
invariant-loop-visit l = l.uses.items ≡ filter (is_within l.fn.region.first l.fn.region.end) (visits_uses l.leaves (take l.visit-index l.visit-items))
