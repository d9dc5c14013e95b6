use Rattle.pd_tools.proofs.restore.restore_kind.Goals as goal

pub returns-in-Thin-clause-restored : goal.returns-in-Thin-clause-restored
returns-in-Thin-clause-restored g c = rw c.in-Thin.is c.restore_thin.ensures.restored

pub returns-in-Cache-clause-restored : goal.returns-in-Cache-clause-restored
returns-in-Cache-clause-restored g c = rw c.in-Cache.is c.restore_cache.ensures.restored

pub returns-in-Era-clause-restored : goal.returns-in-Era-clause-restored
returns-in-Era-clause-restored g c = rw c.in-Era.is c.restore_era.ensures.restored
