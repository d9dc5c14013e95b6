use Rattle.pd_tools.proofs.CacheRepairs.{cache_repair_rests, kept_lost}
use Rattle.pd_tools.proofs.repair.CacheRepairTask.laws.Goals as goal

pub returns-clause-rests : goal.returns-clause-rests
returns-clause-rests c = cache_repair_rests c.args.self.now.version c.args.self.now.named c.args.self.now.from.now c.args.self.now.to.now

pub returns-clause-loses : goal.returns-clause-loses
returns-clause-loses c found before after status some left = kept_lost found before after status some left
