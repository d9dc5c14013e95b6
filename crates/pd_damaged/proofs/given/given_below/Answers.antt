use Rattle.std.proofs.Common.{fold, ◌∙◌, ap}
use Rattle.pd_measures.proofs.ListLemmas.{ok_some}
use Rattle.pd_damaged.specs.Given.{given_counted, none_given}
use Rattle.pd_damaged.proofs.GivenLemmas.{given_is}
use Rattle.pd_damaged.proofs.given.given_below.Goals as goal

pub returns-clause-given : goal.returns-clause-given
returns-clause-given g c =
    let ids = c.args.ids.now in
    ok_some c.given_by.result (g.D.Device.state c.args.dev.now).held _ _
    (λ given image is graph top number below.
    is
    ∙ (ap (fold (given_counted ids) (none_given c.args.root)) (c.restart.ensures.left image)
    ∙ given_is graph image c.args.nr top c.args.root ids c.requires.ids number below))
    c.given_by.ensures.given
