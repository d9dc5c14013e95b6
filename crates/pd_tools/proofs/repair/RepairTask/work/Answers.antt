use Rattle.std.proofs.Common.{refl}
use Rattle.pd_kinds.specs.declared.kind.Kind.TheVariants.{Thin}
use Rattle.pd_kinds.specs.declared.kind.Stage.TheVariants.{Super}
use Rattle.pd_kinds.specs.Stages.{faults}
use Rattle.pd_answers.specs.Repairs.{saved_of}
use Rattle.pd_tools.specs.Opened.{devices}
use Rattle.pd_tools.proofs.Repairs.{repair_statuses, repair_works}
use Rattle.pd_tools.proofs.repair.RepairTask.work.Goals as goal

pub returns-clause-works : goal.returns-clause-works
returns-clause-works g c others notes first fresh was _ =
    rw c.ended_of.ensures
    (repair_works (faults Thin Super) repair_statuses (record { done = refl; no_room = refl; failed = refl; wanting = refl }) c.args.self.now.shared (saved_of c.args.self.now.shared) c.args.self.now.from.now c.args.self.now.to.now (record others { input = first.input; output = first.output; third = first.third })
    (record others { notes = notes; input = g.A.Device.state c.repair_pool.new.input; output = g.B.Device.state c.repair_pool.new.output; third = g.C.Device.state c.args.third.now })
    (devices (g.A.Device.state c.args.input.now) (g.B.Device.state c.args.output.now) (g.C.Device.state c.args.third.now)) fresh was (g.met.B.Device.measured c.args.output.now) c.repair_pool.ensures.place
    c.repair_pool.result c.repair_pool.ensures.repaired (λ rules is. refl) c.repair_pool.ensures.named c.repair_pool.ensures.causes)
