use Rattle.pd_tools.proofs.Rehearses.{rehearse_rests, rehearsed_lost}
use Rattle.pd_tools.proofs.rehearse.RehearsingTask.laws.Goals as goal

pub returns-clause-rests : goal.returns-clause-rests
returns-clause-rests c before after fresh alone _ = rehearse_rests c.args.self.now.number c.args.self.now.image.now before after c.pool_text_has_one_verdict.ensures.some fresh.output.2 alone

pub returns-clause-loses : goal.returns-clause-loses
returns-clause-loses c found before after status some left = rehearsed_lost c.args.self.now.number found before after status left
