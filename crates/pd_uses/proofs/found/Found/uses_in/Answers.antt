use Rattle.std.proofs.Common.{◌∙◌, List, ◌++◌, filter, get_or, map, take, ap, ap₂, sym}
use Rattle.std.proofs.lemmas.List.{take_all, take_more}
use Rattle.pd_uses.specs.declared.hits.DataUse.{DataUse}
use Rattle.pd_uses.specs.declared.found.Visit.{Visit}
use Rattle.pd_uses.specs.declared.hits.Hit.{Hit}
use Rattle.pd_uses.specs.declared.hits.LeafPart.{LeafPart}
use Rattle.pd_uses.specs.FoundUses.{visits_uses}
use Rattle.pd_uses.specs.Hits.{use_of}
use Rattle.pd_uses.specs.Uses.{is_within}
use Rattle.pd_uses.specs.Parts.{hits_at}
use Rattle.pd_uses.proofs.FoundLemmas.{no_visits, visits_more}
use Rattle.pd_uses.proofs.found.Found.uses_in.Goals as goal

pub loop-visit-init : goal.loop-visit-init
loop-visit-init c = c.in_ok-uses.ensures.items ∙ sym (no_visits c.args.region c.as_slice-leaves.result.now)

pub loop-visit-preserved : goal.loop-visit-preserved
loop-visit-preserved c =
    let region = c.args.region in
    let leaves = c.as_slice-leaves.result.now in
    let visits = c.deref-visit-items.result.now in
    let i = c.loop-visit.visit-index in
    let none : Visit = record { id = 0; leaf = 0 } in
    let visit = get_or visits i none in
    c.in_ok-add_part_uses.ensures
    ∙ (ap₂ (λ (xs ys : List DataUse). xs ++ ys) c.loop-visit.invariant
    (ap (λ (parts : List LeafPart). map (use_of visit.id) (hits_at leaves parts visit.leaf)) c.as_slice-in-loop-visit.ensures.value)
    ∙ sym (ap (λ (some : List Visit). filter (is_within region.first region.end) (visits_uses leaves some)) (take_more visits i none c.loop-visit-test.true)
    ∙ visits_more region leaves c.in_ok-parts.parts.items (take i visits) visit c.in_ok-parts.ensures))

pub returns : goal.returns
returns c =
    let visits = c.deref-visit-items.result.now in
    c.loop-visit.invariant
    ∙ ap₂ (λ (leaves : List (List Hit)) (some : List Visit). filter (is_within c.args.region.first c.args.region.end) (visits_uses leaves some)) c.as_slice-leaves.ensures.value
    (take_all c.loop-visit.visit-index visits c.loop-visit-test.false ∙ c.deref-visit-items.ensures.value)
