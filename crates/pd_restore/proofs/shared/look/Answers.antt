use Rattle.pd_restore.proofs.shared.look.Goals as goal

pub returns-clause-need : goal.returns-clause-need
returns-clause-need c before start now h = rw (c.need.ensures before start now h) at c.within.ensures.need
