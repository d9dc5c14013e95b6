use Rattle.pd_salvage.proofs.GatherLemmas.{ends_with}
use Rattle.pd_salvage.proofs.joined.Joining.end.Goals as goal

pub returns-in_ok-push : goal.returns-in_ok-push
returns-in_ok-push c = λ before ms is.
    ends_with before c.args.runs.now c.args.self.now ms is c.in-Some.begun c.push.new.self c.in-Some.is c.in_ok-push.ensures.pushed
