use Rattle.std.proofs.Common.{rules, refl, ◌∙◌, ap}
use Rattle.pd_answers.specs.Shrinks.{moved_line}
use Rattle.pd_tools.specs.Opened.{devices}
use Rattle.pd_tools.proofs.Shrinks.{shrink_done, shrink_unplanned, shrink_unwritten}
use Rattle.pd_tools.proofs.shrink.shrink_sound.Goals as goal

pub returns-in-Err-clause-works : goal.returns-in-Err-clause-works
returns-in-Err-clause-works g c from to pool others notes first fresh was =
    let kept = c.in-Err.ensures.kept in
    rw c.ended_without_plan.ensures
    (shrink_unplanned c.args.shared from to pool c.args.blocks (record others { input = first.input; output = first.output; third = first.third }) (devices (g.A.Device.state c.args.input.now) (g.B.Device.state c.args.output.now) (g.C.Device.state c.args.third.now)) notes (g.A.Device.state c.plan_shrink.new.input) fresh was
    (record { held = kept.held; history = kept.history }) (g.met.B.Device.measured c.args.output.now) (g.met.C.Device.measured c.args.third.now) c.requires.sound c.in-Err.fault c.in-Err.ensures.plans c.in-Err.ensures.faults)

pub returns-in_err-count-clause-works : goal.returns-in_err-count-clause-works
returns-in_err-count-clause-works g c from to pool others notes first fresh was =
    let (ground, planned) = c.in-Ok.ensures.plans in
    let written = c.in_err-count.ensures.written (g.A.Device.state c.plan_shrink.new.input) in
    let stopped = shrink_unwritten c.args.shared from to pool c.args.blocks (record others { input = first.input; output = first.output; third = first.third })
    (record others { notes = notes; input = g.A.Device.state c.plan_shrink.new.input; output = g.B.Device.state c.move_and_write.new.output; third = g.C.Device.state c.move_and_write.new.third })
    (devices (g.A.Device.state c.args.input.now) (g.B.Device.state c.args.output.now) (g.C.Device.state c.args.third.now)) fresh refl was c.requires.sound (g.met.B.Device.measured c.args.output.now) (g.met.C.Device.measured c.args.third.now)
    c.in-Ok.plan ground planned _ written c.in_err-count.field-0.0 written.goes_as_far in
    search rules

pub returns-clause-works : goal.returns-clause-works
returns-clause-works g c from to pool others notes first fresh was =
    let (ground, planned) = c.in-Ok.ensures.plans in
    let worked = c.in_ok-count.ensures in
    let written = worked.written (g.A.Device.state c.plan_shrink.new.input) in
    rw (c.moved_text.ensures ∙ ap moved_line (worked.count c.args.shared ground planned.plan planned.fits))
    (shrink_done c.args.shared from to pool c.args.blocks (record others { input = first.input; output = first.output; third = first.third })
    (record others { notes = notes; input = g.A.Device.state c.plan_shrink.new.input; output = g.B.Device.state c.move_and_write.new.output; third = g.C.Device.state c.move_and_write.new.third })
    (devices (g.A.Device.state c.args.input.now) (g.B.Device.state c.args.output.now) (g.C.Device.state c.args.third.now)) fresh refl was c.requires.sound (g.met.B.Device.measured c.args.output.now) (g.met.C.Device.measured c.args.third.now)
    c.in-Ok.plan ground planned _ written written.goes_as_far)

pub returns-in_err-count-clause-output : goal.returns-in_err-count-clause-output
returns-in_err-count-clause-output g c = (c.in_err-count.ensures.written (g.A.Device.state c.plan_shrink.new.input)).output_place

pub returns-in_err-count-clause-third : goal.returns-in_err-count-clause-third
returns-in_err-count-clause-third g c = (c.in_err-count.ensures.written (g.A.Device.state c.plan_shrink.new.input)).pool_place

pub returns-clause-output : goal.returns-clause-output
returns-clause-output g c = (c.in_ok-count.ensures.written (g.A.Device.state c.plan_shrink.new.input)).output_place

pub returns-clause-third : goal.returns-clause-third
returns-clause-third g c = (c.in_ok-count.ensures.written (g.A.Device.state c.plan_shrink.new.input)).pool_place
