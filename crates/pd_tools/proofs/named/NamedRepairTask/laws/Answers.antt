use Rattle.pd_tools.proofs.NamedRepairs.{named_rests}
use Rattle.pd_tools.proofs.Repairs.{repaired_lost}
use Rattle.pd_tools.proofs.named.NamedRepairTask.laws.Goals as goal

pub returns-clause-rests : goal.returns-clause-rests
returns-clause-rests c before after fresh alone _ =
    named_rests c.args.self.now.shared c.args.self.now.given c.args.self.now.named c.args.self.now.from.now c.args.self.now.to.now before after fresh alone

pub returns-clause-loses : goal.returns-clause-loses
returns-clause-loses c found before after status some left = repaired_lost c.args.self.now.shared found status before.output after.output some left
