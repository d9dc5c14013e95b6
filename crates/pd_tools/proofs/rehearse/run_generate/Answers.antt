use Rattle.std.proofs.Common.{refl}
use Rattle.std.specs.Option.{option_copied}
use Rattle.pd_answers.specs.Promises.{generate}
use Rattle.pd_tools.specs.declared.ending.Stop.TheVariants.{Stream}
use Rattle.pd_tools.proofs.Answered.{answered_silent, answered_stopped}
use Rattle.pd_tools.proofs.Rehearses.{generated, generated_front}
use Rattle.pd_tools.proofs.rehearse.run_generate.Goals as goal

pub returns-in-Ok : goal.returns-in-Ok
returns-in-Ok g c others fresh was =
    let file = option_copied c.args.file in
    answered_silent (generate c.args.number file) _ _ _ fresh was 0
    (generated c.args.number file others (g.E.Sink.state c.args.notes.now) (g.K.Sink.state c.args.out.now) (g.K.Sink.state c.put_text.new.out) c.in-Ok.ensures.used c.in-Ok.ensures.access c.in-Ok.ensures.whole) refl

pub returns-in-Err : goal.returns-in-Err
returns-in-Err g c others fresh was =
    let file = option_copied c.args.file in
    answered_stopped (generate c.args.number file) _ _ _ fresh was Stream _
    (generated_front c.args.number file others (g.E.Sink.state c.put.new.notes) (g.K.Sink.state c.args.out.now) (g.K.Sink.state c.put_text.new.out) c.in-Err.ensures.used c.in-Err.ensures.front c.in-Err.ensures.faults.0) c.put.ensures
