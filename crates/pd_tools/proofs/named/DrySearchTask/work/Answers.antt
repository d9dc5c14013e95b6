use Rattle.std.proofs.lemmas.Result.{err_from_is_err_and}
use Rattle.pd_answers.specs.NamedRepairs.{dry_search}
use Rattle.pd_tools.specs.Opened.{devices}
use Rattle.pd_tools.proofs.NamedRepairs.{dry_search_done, dry_search_none, dry_search_possible, dry_search_rests, halts_unread}
use Rattle.pd_tools.proofs.named.DrySearchTask.work.Goals as goal

pub returns-in-Some-clause-works : goal.returns-in-Some-clause-works
returns-in-Some-clause-works g c others notes first fresh was _ =
    let self = c.args.self.now in
    dry_search_done self.given self.named self.path.now (record others { input = first.input; output = first.output; third = first.third }) _ (g.A.Device.state c.args.input.now) was.input
    c.in-Some.looked (rw c.in-Some.is at c.in_ok-looked.ensures.told)

pub returns-in-None-clause-works : goal.returns-in-None-clause-works
returns-in-None-clause-works g c others notes first fresh was _ =
    let self = c.args.self.now in
    dry_search_none self.given self.named self.path.now (record others { input = first.input; output = first.output; third = first.third }) _ (g.A.Device.state c.args.input.now) was.input
    (rw c.in-None.is at c.in_ok-looked.ensures.told) (rw c.in-None.is at c.in_ok-looked.ensures.some)

pub returns-in_err-looked-clause-works : goal.returns-in_err-looked-clause-works
returns-in_err-looked-clause-works g c others notes first fresh was _ =
    let self = c.args.self.now in
    let possible = dry_search_possible self.named in
    let stopped = err_from_is_err_and c.from_residual.result c.from_residual.ensures.1 in
    rw (stopped.1, stopped.2)
    (halts_unread (dry_search self.path.now self.given self.named) self.path.now (record others { input = first.input; output = first.output; third = first.third })
    (devices (g.A.Device.state c.args.input.now) (g.B.Device.state c.args.output.now) (g.C.Device.state c.args.third.now)) notes (g.A.Device.state c.look.new.input) was was.input
    (λ _. g.met.B.Device.measured c.args.output.now) (λ _. g.met.C.Device.measured c.args.third.now) c.look.ensures.kept
    (λ alone. dry_search_rests self.given self.named self.path.now _ _) possible.1.0 possible.1.1 tt c.in_err-looked.field-0.0 c.in_err-looked.ensures.faults)
