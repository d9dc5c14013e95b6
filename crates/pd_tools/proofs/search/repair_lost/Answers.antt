use Rattle.pd_tools.proofs.search.repair_lost.Goals as goal

pub returns-then-shared-clause-repaired : goal.returns-then-shared-clause-repaired
returns-then-shared-clause-repaired g c = rw c.if-shared.true c.repair_seen_shared.ensures.repaired

pub returns-else-shared-clause-repaired : goal.returns-else-shared-clause-repaired
returns-else-shared-clause-repaired g c = rw c.if-shared.false c.repair_seen.ensures.repaired
