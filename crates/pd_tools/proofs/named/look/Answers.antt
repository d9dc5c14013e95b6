use Rattle.pd_kept.specs.States.{looked_text}
use Rattle.pd_tools.proofs.Checks.{two_told}
use Rattle.pd_tools.proofs.NamedRepairs.{kept_told}
use Rattle.pd_tools.proofs.named.look.Goals as goal

pub returns-in_ok-kept-in-Some-clause-told : goal.returns-in_ok-kept-in-Some-clause-told
returns-in_ok-kept-in-Some-clause-told g c =
    rw c.in-Some.is (two_told (g.A.Device.state c.args.input.now).held
    (λ image is told. kept_told image c.args.given.now c.in-Some.roots c.in_ok-s-in-Some.s.fields c.in_ok-kept-in-Some.kept (looked_text c.from_named.result) is told c.from_named.ensures)
    c.in_ok-s-in-Some.ensures.named (rw c.in_ok-s-in-Some.ensures.kept.held at c.in_ok-kept-in-Some.ensures.told))
