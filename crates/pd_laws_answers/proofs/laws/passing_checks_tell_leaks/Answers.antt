use Rattle.std.proofs.Common.{refl}
use Rattle.std.proofs.lemmas.Option.{IfSome_then}
use Rattle.pd_laws_answers.proofs.Cleared.{passing_tells}
use Rattle.pd_laws_answers.proofs.laws.passing_checks_tell_leaks.Goals as goal

pub returns-clause-tells : goal.returns-clause-tells
returns-clause-tells c = passing_tells c.reports_tell_leaks.ensures

pub returns-clause-nothing_lost : goal.returns-clause-nothing_lost
returns-clause-nothing_lost c = λ kind path before after answered.
    IfSome_then before.input.held (passing_tells c.reports_tell_leaks.ensures kind path before after 0 answered) (λ image told.
    let leaks = told.passed refl in
    record { sound = c.leaks_alone_lose_nothing.ensures.sound kind image leaks; counts = c.leaks_alone_lose_nothing.ensures.counts kind image leaks })
