use Rattle.pd_tools.proofs.Writebacks.{writeback_lost, writeback_rests}
use Rattle.pd_tools.proofs.writeback.WritebackTask.laws.Goals as goal

pub returns-clause-rests : goal.returns-clause-rests
returns-clause-rests c before after fresh alone _ = writeback_rests c.args.self.now.metadata.now c.args.self.now.fast.now c.args.self.now.origin.now before after fresh alone

pub returns-clause-loses : goal.returns-clause-loses
returns-clause-loses c found before after status some left = writeback_lost before after found status some left
