use Rattle.pd_kinds.specs.declared.kind.Kind.TheVariants.{Thin}
use Rattle.pd_kinds.specs.declared.kind.Stage.TheVariants.{Super}
use Rattle.pd_kinds.specs.Stages.{faults}
use Rattle.pd_answers.specs.Repairs.{saved_of}
use Rattle.pd_tools.proofs.Repairs.{repair_rests, repair_statuses, repaired_lost}
use Rattle.pd_tools.proofs.repair.RepairTask.laws.Goals as goal

pub returns-clause-rests : goal.returns-clause-rests
returns-clause-rests c before after fresh alone _ = repair_rests (faults Thin Super) repair_statuses c.args.self.now.shared (saved_of c.args.self.now.shared) c.args.self.now.from.now c.args.self.now.to.now before after fresh alone

pub returns-clause-loses : goal.returns-clause-loses
returns-clause-loses c saved before after status some left = repaired_lost c.args.self.now.shared saved status before.output after.output some left
