use Rattle.pd_restore.proofs.lines.fault_after.Goals as goal

pub returns-in-Text-clause-says : goal.returns-in-Text-clause-says
returns-in-Text-clause-says g c before text start now h first t refuses = c.refused.ensures.says before text start now h first t (rw c.in-Text.is at refuses)
