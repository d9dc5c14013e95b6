use Rattle.pd_tools.proofs.Shrinks.{shrink_lost, shrink_rests}
use Rattle.pd_tools.proofs.shrink.ShrinkingTask.laws.Goals as goal

pub returns-clause-rests : goal.returns-clause-rests
returns-clause-rests c before after fresh alone _ = shrink_rests c.args.self.now.shared c.args.self.now.from.now c.args.self.now.to.now c.args.self.now.pool.now c.args.self.now.blocks before after fresh alone

pub returns-clause-loses : goal.returns-clause-loses
returns-clause-loses c found before after status some left = shrink_lost before after found status some left
