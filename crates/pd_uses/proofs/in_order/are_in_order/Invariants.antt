use Rattle.std.proofs.Common.{take}
use Rattle.pd_uses.specs.FoundUses.{visits_uses}
use Rattle.pd_uses.specs.InOrder.{Rises}
use Rattle.pd_uses.proofs.in_order.are_in_order.Given as goal

abbrev pub invariant-loop-visit : goal.invariant-loop-visit
invariant-loop-visit l = Rises l.region.first l.region.end l.last (visits_uses l.leaves (take l.visit-index l.visits))
