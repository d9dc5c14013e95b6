use Rattle.std.proofs.Common.{◌∙◌, ap}
use Rattle.std.specs.Option.{option_map}
use Rattle.pd_kinds.proofs.ResultLemmas.{if_maps}
use Rattle.pd_value.specs.declared.space_map.Count.{Count}
use Rattle.pd_smap.proofs.OverflowLeftLemmas.{found_in}
use Rattle.pd_smap.proofs.overflow.overflow_count.Goals as goal

pub returns-in-Some-clause-count : goal.returns-in-Some-clause-count
returns-in-Some-clause-count g c =
    if_maps (g.D.Device.state c.args.dev.now).held _ _ (λ image found searchable. ap (option_map (λ (n : Count). n.0)) (found searchable) ∙ found_in image c.args.root c.args.b) (rw c.in-Some.is at c.in_ok-count.ensures.found)

pub returns-in-None-clause-count : goal.returns-in-None-clause-count
returns-in-None-clause-count g c =
    if_maps (g.D.Device.state c.args.dev.now).held _ _ (λ image found searchable. ap (option_map (λ (n : Count). n.0)) (found searchable) ∙ found_in image c.args.root c.args.b) (rw c.in-None.is at c.in_ok-count.ensures.found)
