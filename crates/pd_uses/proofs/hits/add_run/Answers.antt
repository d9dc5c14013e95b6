use Rattle.std.proofs.Common.{List, [], ◌∷◌, ◌++◌, ap, filter, ◌∙◌}
use Rattle.pd_uses.specs.declared.hits.Hit.{Hit}
use Rattle.pd_uses.specs.Hits.{is_hit}
use Rattle.pd_uses.proofs.RunLemmas.{places_more}
use Rattle.pd_uses.proofs.hits.add_run.Goals as goal

pub loop-place-preserved : goal.loop-place-preserved
loop-place-preserved c =
    let region = c.args.region in
    let hit = c.hit.result in
    c.in_ok-add_hit.ensures
    ∙ (ap (λ (hits : List Hit). hits ++ filter (is_hit region) (hit ∷ [])) c.loop-place.invariant ∙ places_more region c.args.run c.args.hits.now.items c.loop-place.place hit c.hit.ensures)
