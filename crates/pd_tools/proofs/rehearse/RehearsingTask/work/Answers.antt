use Rattle.std.proofs.Common.{refl}
use Rattle.pd_tools.specs.Opened.{devices}
use Rattle.pd_tools.proofs.Rehearses.{rehearse_works}
use Rattle.pd_tools.proofs.rehearse.RehearsingTask.work.Goals as goal

pub returns-clause-works : goal.returns-clause-works
returns-clause-works g c others notes first fresh was _ =
    rw c.ended_of.ensures
    (rehearse_works c.args.self.now.number c.args.self.now.image.now (record others { input = first.input; output = first.output; third = first.third })
    (record others { notes = notes; input = g.A.Device.state c.args.input.now; output = g.B.Device.state c.rehearse-rehearsed.new.dev; third = g.C.Device.state c.args.third.now })
    (devices (g.A.Device.state c.args.input.now) (g.B.Device.state c.args.output.now) (g.C.Device.state c.args.third.now)) fresh refl was (g.met.B.Device.measured c.args.output.now)
    c.rehearse-rehearsed.ensures.place c.rehearse-rehearsed.result c.rehearse-rehearsed.ensures.rehearsed c.rehearse-rehearsed.result refl c.rehearse-rehearsed.ensures.rehearsed.reported c.rehearse-rehearsed.ensures.causes)
