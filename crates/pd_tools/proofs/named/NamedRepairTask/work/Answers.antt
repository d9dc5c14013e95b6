use Rattle.std.proofs.Common.{◌≡◌, ℕ, List, [], Option, Some, None, IfSome, refl}
use Rattle.std.proofs.lemmas.Result.{err_from_is_err_and}
use Rattle.pd_kinds.specs.declared.rule.Fault.{Fault}
use Rattle.pd_answers.specs.NamedRepairs.{repair_named}
use Rattle.pd_tools.specs.Opened.{devices}
use Rattle.pd_tools.proofs.NamedRepairs.{halts_unread, named_rests, named_works}
use Rattle.pd_tools.proofs.Tasks.{still_opened}
use Rattle.pd_tools.proofs.named.NamedRepairTask.work.Goals as goal

pub returns-clause-works : goal.returns-clause-works
returns-clause-works g c others notes first fresh was _ =
    let kept = c.named_super.ensures.kept in
    let self = c.args.self.now in
    rw c.ended_of.ensures
    (named_works self.shared self.given self.named self.from.now self.to.now (record others { input = first.input; output = first.output; third = first.third })
    (record others { notes = notes; input = g.A.Device.state c.repair_lost-written.new.input; output = g.B.Device.state c.repair_lost-written.new.output; third = g.C.Device.state c.args.third.now })
    (devices (g.A.Device.state c.named_super.new.input) (g.B.Device.state c.args.output.now) (g.C.Device.state c.args.third.now)) fresh
    (record {
      input = still_opened was.input kept.access kept.path (record { held = kept.held; history = kept.history }) c.in_ok-s.ensures.faults;
      output = was.output;
      third = was.third;
    })
    (g.met.B.Device.measured c.args.output.now) c.repair_lost-written.ensures.place c.in_ok-s.s.fields c.in_ok-s.s.time (rw kept.held c.in_ok-s.ensures.named) (rw kept.held c.in_ok-s.ensures.time)
    c.repair_lost-written.result c.repair_lost-written.ensures.repaired c.repair_lost-written.ensures.sound c.repair_lost-written.ensures.causes)

pub returns-in_err-s-clause-works : goal.returns-in_err-s-clause-works
returns-in_err-s-clause-works g c others notes first fresh was _ =
    let self = c.args.self.now in
    let stopped = err_from_is_err_and c.from_residual.result c.from_residual.ensures.1 in
    rw (stopped.1, stopped.2)
    (halts_unread (repair_named self.shared self.from.now self.to.now self.given self.named) self.from.now (record others { input = first.input; output = first.output; third = first.third })
    (devices (g.A.Device.state c.args.input.now) (g.B.Device.state c.args.output.now) (g.C.Device.state c.args.third.now)) notes (g.A.Device.state c.named_super.new.input) was was.input
    (λ _. g.met.B.Device.measured c.args.output.now) (λ _. g.met.C.Device.measured c.args.third.now) c.named_super.ensures.kept
    (named_rests self.shared self.given self.named self.from.now self.to.now _ _ fresh) refl refl
    (memory (record others { input = first.input; output = first.output; third = first.third }).input.held) c.in_err-s.field-0.0 c.in_err-s.ensures.faults)
  where
    memory : (held : Option (List (List ℕ))) → IfSome held (λ image. ◌≡◌ {A = List Fault} [] [])
    memory None = tt
    memory (Some image) = refl
