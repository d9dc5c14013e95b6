use Rattle.std.proofs.Common.{refl, ◌∙◌, ap}
use Rattle.std.proofs.lemmas.List.Sorted.{length_permutation}
use Rattle.pd_answers.specs.Writebacks.{copied_line}
use Rattle.pd_writeback.specs.Plan.{plan_hot}
use Rattle.pd_tools.specs.Opened.{devices}
use Rattle.pd_tools.proofs.Writebacks.{writeback_done, writeback_failed, writeback_unplanned}
use Rattle.pd_tools.proofs.writeback.write_sound.Goals as goal

pub returns-in-Err-clause-works : goal.returns-in-Err-clause-works
returns-in-Err-clause-works g c metadata fast origin others notes first fresh was =
    let kept = c.in-Err.ensures.kept in
    rw c.ended_without_plan.ensures
    (writeback_unplanned metadata fast origin (record others { input = first.input; output = first.output; third = first.third }) (devices (g.A.Device.state c.args.input.now) (g.B.Device.state c.args.output.now) (g.C.Device.state c.args.third.now)) notes (g.A.Device.state c.make.new.meta) fresh was
    (record { held = kept.held; history = kept.history }) (g.met.B.Device.measured c.args.output.now) (g.met.C.Device.measured c.args.third.now) c.requires.sound c.in-Err.fault c.in-Err.ensures.plans c.in-Err.ensures.faults)

pub returns-in-Ok-copy_and_mark-clause-works : goal.returns-in-Ok-copy_and_mark-clause-works
returns-in-Ok-copy_and_mark-clause-works g c metadata fast origin others notes first fresh was =
    let kept = c.in-Ok.ensures.kept in
    let (size, hot, made) = c.in-Ok.ensures.plans in
    let done = c.in-Ok-copy_and_mark.ensures in
    rw (c.copied_text.ensures ∙ ap copied_line (done.count ∙ length_permutation hot (plan_hot c.in-Ok.plan) made.same))
    (writeback_done metadata fast origin (record others { input = first.input; output = first.output; third = first.third })
    (record others { notes = notes; input = g.A.Device.state c.copy_and_mark.new.input; output = g.B.Device.state c.copy_and_mark.new.output; third = g.C.Device.state c.copy_and_mark.new.third })
    (devices (g.A.Device.state c.args.input.now) (g.B.Device.state c.args.output.now) (g.C.Device.state c.args.third.now)) (g.A.Device.state c.make.new.meta) fresh refl was (record { held = kept.held; history = kept.history }) c.in-Ok.ensures.faults
    c.requires.sound (g.met.B.Device.measured c.args.output.now) (g.met.C.Device.measured c.args.third.now) size hot c.in-Ok.plan made _ done.written done.written.has_copied done.written.marked)

pub returns-clause-works : goal.returns-clause-works
returns-clause-works g c metadata fast origin others notes first fresh was =
    let kept = c.in-Ok.ensures.kept in
    let (size, hot, made) = c.in-Ok.ensures.plans in
    let written = c.in-Err-copy_and_mark.ensures.written in
    writeback_failed metadata fast origin (record others { input = first.input; output = first.output; third = first.third })
    (record others { notes = notes; input = g.A.Device.state c.copy_and_mark.new.input; output = g.B.Device.state c.copy_and_mark.new.output; third = g.C.Device.state c.copy_and_mark.new.third })
    (devices (g.A.Device.state c.args.input.now) (g.B.Device.state c.args.output.now) (g.C.Device.state c.args.third.now)) (g.A.Device.state c.make.new.meta) fresh refl was (record { held = kept.held; history = kept.history }) c.in-Ok.ensures.faults
    c.requires.sound (g.met.B.Device.measured c.args.output.now) (g.met.C.Device.measured c.args.third.now) size hot c.in-Ok.plan made _ written written.faults
