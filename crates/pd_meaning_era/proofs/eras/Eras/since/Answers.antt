use Rattle.std.proofs.Common.{refl}
use Rattle.pd_kinds.proofs.ResultLemmas.{if_maps}
use Rattle.pd_meaning_era.proofs.PartLemmas.{all_left}
use Rattle.pd_meaning_era.proofs.eras.Eras.since.Goals as goal

pub returns-clause-left : goal.returns-clause-left
returns-clause-left g c =
    if_maps (g.D.Device.state c.args.dev.now).held _ _ (λ image rows. all_left image c.args.least _ c.args.s.now refl refl (c.in_ok-words.ensures.words image) rows) c.in_ok-rows.ensures.rows
