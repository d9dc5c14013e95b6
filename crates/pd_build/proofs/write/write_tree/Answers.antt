use Rattle.std.proofs.Common.{◌≡◌, length, sym, ◌∙◌, ap}
use Rattle.pd_node.specs.Items.{entries_of}
use Rattle.pd_node.proofs.FromItems.{count_kept}
use Rattle.pd_draft.proofs.DraftLemmas.{closed_then}
use Rattle.pd_grammar.specs.Need.{need_tree}
use Rattle.pd_build.proofs.TakesLemmas.{keys-entries}
use Rattle.pd_build.proofs.TreeLemmas.{on_ok}
use Rattle.pd_build.proofs.BuildingLemmas.{building_start, building_end, building_root}
use Rattle.pd_build.proofs.write.write_tree.Goals as goal

pub put_items-requires-clause-building : goal.put_items-requires-clause-building
put_items-requires-clause-building g c =
    let all = entries_of g.V.Value.code c.args.items.now in
    let count : length all ≡ length c.args.items.now = count_kept g.V.Value.code c.args.items.now in
    let n = c.in_ok-builder.ensures in
    building_start all c.in_ok-builder.builder c.requires.closed (n.blocks c.args.draft.now.next all count) (n.root c.args.draft.now.next all count)
    (n.items ∙ sym count) (n.room ∙ ap (need_tree g.V.Value.SIZE) (sym count)) n.low (rw (keys-entries g.V.Value.code c.args.items.now) c.requires.ascend)

pub returns-clause-closed : goal.returns-clause-closed
returns-clause-closed g c = closed_then c.in_ok-put_items.ensures.building.wrote.stays c.finish.ensures.closed

pub returns-clause-wrote : goal.returns-clause-wrote
returns-clause-wrote g c = on_ok c.finish.result (λ wrote. building_end c.in_ok-put_items.ensures.building wrote) c.finish.ensures.wrote

pub returns-clause-root : goal.returns-clause-root
returns-clause-root g c = building_root c.finish.result c.in_ok-put_items.ensures.building c.finish.ensures.root
