use Rattle.std.proofs.Common.{sym}
use Rattle.pd_salvage.proofs.GatherLemmas.{joins_apart, joins_on}
use Rattle.pd_salvage.proofs.joined.Joining.take.Goals as goal

pub returns-then-follows : goal.returns-then-follows
returns-then-follows c = λ before ms is.
    joins_on before c.args.runs.now c.args.self.now ms is c.args.next c.requires.some c.in-Some.begun c.in-Some.is (sym c.if-follows.ensures)

pub returns-in_ok-push-in-Some : goal.returns-in_ok-push-in-Some
returns-in_ok-push-in-Some c = λ before ms is.
    joins_apart before c.args.runs.now c.args.self.now ms is c.args.next c.requires.some c.in-Some.begun c.push.new.self c.in-Some.is (sym c.if-follows.ensures) c.in_ok-push-in-Some.ensures.pushed
