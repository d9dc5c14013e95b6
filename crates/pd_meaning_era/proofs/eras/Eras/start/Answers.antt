use Rattle.pd_kinds.proofs.ResultLemmas.{if_maps}
use Rattle.pd_meaning_era.specs.Eras.{eras_below}
use Rattle.pd_meaning_era.specs.Parts.{eras_left}
use Rattle.pd_meaning_era.proofs.PartLemmas.{all_told}
use Rattle.pd_meaning_era.proofs.eras.Eras.start.Goals as goal

pub returns-clause-left : goal.returns-clause-left
returns-clause-left g c =
    if_maps (g.D.Device.state c.args.dev.now).held _ _ (λ image same. all_told (eras_left image c.in_ok-eras.eras) (eras_below image c.args.s.now) same) c.in_ok-eras.ensures.left
