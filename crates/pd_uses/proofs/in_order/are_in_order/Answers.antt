use Rattle.std.proofs.Common.{List, get_or, map, subst}
use Rattle.std.proofs.lemmas.List.{take_all}
use Rattle.pd_uses.specs.declared.found.Visit.{Visit}
use Rattle.pd_uses.specs.declared.hits.Hit.{Hit}
use Rattle.pd_uses.specs.FoundUses.{visits_uses}
use Rattle.pd_uses.specs.Hits.{use_of}
use Rattle.pd_uses.specs.InOrder.{Rises, RisesFrom}
use Rattle.pd_uses.proofs.OrderLemmas.{no_visit_uses, rises_none, visits_rise}
use Rattle.pd_uses.proofs.in_order.are_in_order.Goals as goal

pub loop-visit-init : goal.loop-visit-init
loop-visit-init c = rw (no_visit_uses c.args.leaves.now) (rises_none c.args.region.first c.args.region.end)

pub loop-visit-preserved : goal.loop-visit-preserved
loop-visit-preserved c =
    let region = c.args.region in
    let visits = c.args.visits.now in
    let i = c.loop-visit.visit-index in
    let none : Visit = record { id = 0; leaf = 0 } in
    let visit = get_or visits i none in
    visits_rise c.args.leaves.now region.first region.end c.loop-visit.last c.in-Some.next visits i none c.loop-visit-test.true c.loop-visit.invariant
    (subst (λ (hits : List Hit). Rises c.loop-visit.last region.end c.in-Some.next (map (use_of visit.id) hits)) c.runs_of-runs.ensures (c.in-Some.ensures visit.id))

pub returns : goal.returns
returns c = λ yes.
    subst (λ (visits : List Visit). RisesFrom c.args.region.first c.args.region.end (visits_uses c.args.leaves.now visits)) (take_all c.loop-visit.visit-index c.args.visits.now c.loop-visit-test.false) c.loop-visit.invariant.order
