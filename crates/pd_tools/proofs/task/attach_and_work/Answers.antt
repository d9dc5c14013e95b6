use Rattle.std.proofs.Common.{refl, sym, ap, subst}
use Rattle.pd_answers.specs.Terms.{IsOpen, Objects}
use Rattle.pd_answers.specs.Terms.{Uses}
use Rattle.pd_tools.specs.Opened.{AreOpened, AreUnopened, devices}
use Rattle.pd_tools.proofs.Tasks.{ends, left_alone, opens, unopened}
use Rattle.pd_tools.proofs.task.attach_and_work.Goals as goal

pub work-requires-clause-input : goal.work-requires-clause-input
work-requires-clause-input g c =
    let uses = (g.T.Task.terms c.args.task.now).uses in
    let was = c.in-Ok.ensures.opened uses.out in
    subst (λ (u : Uses). IsOpen u.input (g.A.Device.state c.open_all.new.input).access) c.places.ensures (opens _ _ (g.A.Device.state c.open_all.new.input) was.input)

pub work-requires-clause-output : goal.work-requires-clause-output
work-requires-clause-output g c =
    let uses = (g.T.Task.terms c.args.task.now).uses in
    let was = c.in-Ok.ensures.opened uses.out in
    subst (λ (u : Uses). IsOpen u.output (g.B.Device.state c.open_all.new.output).access) c.places.ensures (opens _ _ (g.B.Device.state c.open_all.new.output) was.output)

pub work-requires-clause-third : goal.work-requires-clause-third
work-requires-clause-third g c =
    let uses = (g.T.Task.terms c.args.task.now).uses in
    let was = c.in-Ok.ensures.opened uses.out in
    subst (λ (u : Uses). IsOpen u.third (g.C.Device.state c.open_all.new.third).access) c.places.ensures (opens _ _ (g.C.Device.state c.open_all.new.third) was.third)

pub returns-in-Ok : goal.returns-in-Ok
returns-in-Ok g c others notes fresh =
    let terms = g.T.Task.terms c.args.task.now in
    let first = devices (g.A.Device.state c.args.input.now) (g.B.Device.state c.args.output.now) (g.C.Device.state c.args.third.now) in
    let opened = devices (g.A.Device.state c.open_all.new.input) (g.B.Device.state c.open_all.new.output) (g.C.Device.state c.open_all.new.third) in
    let last = devices (g.A.Device.state c.work.new.input) (g.B.Device.state c.work.new.output) (g.C.Device.state c.work.new.third) in
    let was = subst (λ (uses : Uses). AreOpened uses first opened) c.places.ensures (c.in-Ok.ensures.opened terms.uses.out) in
    let here : Objects = record others { out = g.K.Sink.state c.args.out.now } in
    ends terms (record here { input = first.input; output = first.output; third = first.third }) (record here { notes = notes; input = last.input; output = last.output; third = last.third })
    opened (sym (ap (λ (uses : Uses). uses.source) c.places.ensures)) refl fresh c.laws.ensures.loses c.laws.ensures.reads was
    c.work.ensures.input c.work.ensures.output c.work.ensures.third c.work.result c.put_outcome.result (g.K.Sink.state c.put_outcome.new.out) refl
    (c.work.ensures.works here notes first fresh was c.open_all.ensures.unread) c.put_outcome.ensures

pub returns-in-Err : goal.returns-in-Err
returns-in-Err g c others notes fresh =
    let terms = g.T.Task.terms c.args.task.now in
    let first = devices (g.A.Device.state c.args.input.now) (g.B.Device.state c.args.output.now) (g.C.Device.state c.args.third.now) in
    let last = devices (g.A.Device.state c.open_all.new.input) (g.B.Device.state c.open_all.new.output) (g.C.Device.state c.open_all.new.third) in
    let was = subst (λ (uses : Uses). AreUnopened uses first last) c.places.ensures (c.in-Err.ensures.opened terms.uses.out) in
    let here : Objects = record others { out = g.K.Sink.state c.args.out.now } in
    let before : Objects = record here { input = first.input; output = first.output; third = first.third } in
    let after : Objects = record here { notes = notes; input = last.input; output = last.output; third = last.third } in
    unopened terms before after (sym (ap (λ (uses : Uses). uses.source) c.places.ensures)) refl refl fresh (c.laws.ensures.reads before after) c.laws.ensures.can_fail was
    (c.laws.ensures.rests before after fresh (record {
      out = refl;
      input = left_alone terms.uses.input first.input last.input was.input;
      output = left_alone terms.uses.output first.output last.output was.output;
      third = left_alone terms.uses.third first.third last.third was.third;
      output_measured = λ _. g.met.B.Device.measured c.open_all.new.output;
      third_measured = λ _. g.met.C.Device.measured c.open_all.new.third;
    }) c.open_all.ensures.unread)
