use Rattle.pd_tools.proofs.Answered.{answered_ended}
use Rattle.pd_tools.proofs.task.run_task.Goals as goal

pub returns : goal.returns
returns g c others fresh was =
    answered_ended (g.T.Task.terms c.args.task.now) _ _ _ fresh was c.attach_and_work-ended.result c.put_ending.result
    (λ found status some left. c.laws.ensures.loses found _ _ status some left) (c.attach_and_work-ended.ensures others (g.E.Sink.state c.put_ending.new.notes) fresh) c.put_ending.ensures
