use Rattle.pd_tools.proofs.NamedRepairs.{dry_search_possible, dry_search_rests}
use Rattle.pd_tools.proofs.named.DrySearchTask.laws.Goals as goal

pub returns-clause-rests : goal.returns-clause-rests
returns-clause-rests c before after fresh alone _ = dry_search_rests c.args.self.now.given c.args.self.now.named c.args.self.now.path.now before after

pub returns-clause-can_fail : goal.returns-clause-can_fail
returns-clause-can_fail c = (dry_search_possible c.args.self.now.named).1.0
