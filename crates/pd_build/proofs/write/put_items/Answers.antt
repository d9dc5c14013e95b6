use Rattle.std.proofs.Common.{◌≡◌, List, [], length, drop, refl, ◌∙◌, arith, subst}
use Rattle.std.proofs.lemmas.List.{drop_all}
use Rattle.pd_node.specs.Items.{entries_of}
use Rattle.pd_node.proofs.FromItems.{count_kept}
use Rattle.pd_kinds.specs.Node.{Entry}
use Rattle.pd_draft.specs.DraftState.{draft_state}
use Rattle.pd_draft.proofs.DraftLemmas.{closed_then}
use Rattle.pd_build.specs.Building.{IsBuilding}
use Rattle.pd_build.proofs.BuildingLemmas.{building_next, building_at_item}
use Rattle.pd_build.proofs.write.put_items.Goals as goal

pub loop-item-init : goal.loop-item-init
loop-item-init g c = record { same_reference = refl; building = c.requires.building }

pub put-requires-clause-low : goal.put-requires-clause-low
put-requires-clause-low g c =
    (building_at_item g.V.Value.code c.args.items.now c.loop-item.item-index c.item-item.result c.loop-item.invariant.building (omega arith) c.item-item.is).above

pub loop-item-preserved : goal.loop-item-preserved
loop-item-preserved g c = record {
  same_reference = c.put.ensures.same_reference ∙ c.loop-item.invariant.same_reference;
  building = building_next
      (building_at_item g.V.Value.code c.args.items.now c.loop-item.item-index c.item-item.result c.loop-item.invariant.building (omega arith) c.item-item.is)
      c.in_ok-put.ensures.grows;
}

pub returns-in_err-put-clause-closed : goal.returns-in_err-put-clause-closed
returns-in_err-put-clause-closed g c = closed_then c.loop-item.invariant.building.wrote.stays c.put.ensures.closed

pub returns-clause-building : goal.returns-clause-building
returns-clause-building g c =
    let all = entries_of g.V.Value.code c.args.items.now in
    let count : length all ≡ length c.args.items.now = count_kept g.V.Value.code c.args.items.now in
    let end : drop c.loop-item.item-index all ≡ [] = drop_all c.loop-item.item-index all (omega (arith, c.loop-item-test.false)) in
    subst (λ (rest : List Entry). IsBuilding g.V.Value.SIZE all rest c.loop-item.builder (draft_state c.args.draft.now) (draft_state c.loop-item.draft)) end c.loop-item.invariant.building
