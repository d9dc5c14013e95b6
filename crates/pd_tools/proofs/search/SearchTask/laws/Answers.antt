use Rattle.pd_tools.proofs.Searches.{found_lost, search_rests}
use Rattle.pd_tools.proofs.search.SearchTask.laws.Goals as goal

pub returns-clause-rests : goal.returns-clause-rests
returns-clause-rests c before after fresh alone _ = search_rests c.args.self.now.shared c.args.self.now.given c.args.self.now.from.now c.args.self.now.to.now before after fresh alone

pub returns-clause-loses : goal.returns-clause-loses
returns-clause-loses c found before after status some left = found_lost c.args.self.now.shared found before after status some left
