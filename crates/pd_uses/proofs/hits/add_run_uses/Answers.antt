use Rattle.std.proofs.Common.{List, [], ◌∷◌, ◌++◌, ap, ◌∙◌}
use Rattle.pd_uses.specs.declared.hits.DataUse.{DataUse}
use Rattle.pd_uses.specs.Hits.{use_of}
use Rattle.pd_uses.proofs.RunLemmas.{use_places_more}
use Rattle.pd_uses.proofs.hits.add_run_uses.Goals as goal

pub loop-place-preserved : goal.loop-place-preserved
loop-place-preserved c =
    let one = c.use_by.result in
    ◌∙◌ {A = List DataUse} c.in_ok-push.ensures.items
    (◌∙◌ {A = List DataUse} (ap (λ (uses : List DataUse). uses ++ (one ∷ [])) c.loop-place.invariant)
    (use_places_more c.args.id c.args.run c.args.uses.now.items c.loop-place.place one (c.use_by.ensures ∙ ap (use_of c.args.id) c.hit.ensures)))
