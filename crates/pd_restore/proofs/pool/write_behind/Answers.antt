use Rattle.std.proofs.Common.{◌∙◌, arith}
use Rattle.pd_restore.proofs.ShapeParts.{roots_ascend, details_ascend, roots_room, details_room, data_room, roots_step, details_step, steps, map_room, leaves_before, behind_written, mapping_root_is, details_root_is, data_map_is, meta_map_is}
use Rattle.pd_restore.proofs.pool.write_behind.Goals as goal

pub write_tree-requires-clause-ascend : goal.write_tree-requires-clause-ascend
write_tree-requires-clause-ascend g c = let r = c.requires.room in roots_ascend r.shape _ r.start _ c.args.room r.devices r.need r.most

pub write_tree-requires-clause-fit : goal.write_tree-requires-clause-fit
write_tree-requires-clause-fit g c = c.requires.room.devices.roots_fit

pub write_tree-requires-clause-room : goal.write_tree-requires-clause-room
write_tree-requires-clause-room g c =
    let r = c.requires.room in omega (arith, roots_room r.shape _ r.start _ c.args.room r.devices r.need r.most, r.there)

pub write_tree-requires-2-clause-ascend : goal.write_tree-requires-2-clause-ascend
write_tree-requires-2-clause-ascend g c = let r = c.requires.room in details_ascend r.shape _ r.start _ c.args.room r.devices r.need r.most

pub write_tree-requires-2-clause-fit : goal.write_tree-requires-2-clause-fit
write_tree-requires-2-clause-fit g c = c.requires.room.devices.details_fit

pub write_tree-requires-2-clause-room : goal.write_tree-requires-2-clause-room
write_tree-requires-2-clause-room g c =
    let r = c.requires.room in
    let first = roots_step r.shape _ r.start _ c.args.room r.devices r.need r.most c.in_ok-mapping_root.ensures.wrote in
    omega (arith, details_room r.shape _ r.start _ c.args.room r.devices r.need r.most c.write_tree.new.draft.next first, r.there, c.write_tree.ensures.closed.kept.blocks)

pub write_data_map-requires-clause-room : goal.write_data_map-requires-clause-room
write_data_map-requires-clause-room g c =
    let r = c.requires.room in
    let first = roots_step r.shape _ r.start _ c.args.room r.devices r.need r.most c.in_ok-mapping_root.ensures.wrote in
    let second = details_step r.shape _ r.start _ c.args.room r.devices r.need r.most first c.in_ok-details_root.ensures.wrote in
    omega (
      arith,
      data_room r.shape _ r.start _ c.args.room r.devices r.need r.most c.write_tree-2.new.draft.next second,
      r.there,
      c.write_tree.ensures.closed.kept.blocks,
      c.write_tree-2.ensures.closed.kept.blocks,
    )

pub write_leaves_map-requires-clause-leaves : goal.write_leaves_map-requires-clause-leaves
write_leaves_map-requires-clause-leaves g c =
    let r = c.requires.room in
    let at = steps r.shape _ r.start _ c.args.room r.devices r.need r.most c.in_ok-mapping_root.ensures.wrote c.in_ok-details_root.ensures.wrote c.in_ok-data_map.ensures.wrote in
    leaves_before r.shape _ r.start _ c.args.room r.devices r.need r.most c.write_data_map.new.draft.next at.map_at

pub write_leaves_map-requires-clause-counted : goal.write_leaves_map-requires-clause-counted
write_leaves_map-requires-clause-counted g c = c.requires.room.used

pub write_leaves_map-requires-clause-within : goal.write_leaves_map-requires-clause-within
write_leaves_map-requires-clause-within g c =
    let r = c.requires.room in
    let at = steps r.shape _ r.start _ c.args.room r.devices r.need r.most c.in_ok-mapping_root.ensures.wrote c.in_ok-details_root.ensures.wrote c.in_ok-data_map.ensures.wrote in
    map_room r.shape _ r.start _ c.args.room r.devices r.need r.most c.write_data_map.new.draft.next at.map_at

pub returns-clause-wrote : goal.returns-clause-wrote
returns-clause-wrote g c w start h need =
    let most = c.requires.room.most in
    let at = steps w _ start _ c.args.room h need most c.in_ok-mapping_root.ensures.wrote c.in_ok-details_root.ensures.wrote c.in_ok-data_map.ensures.wrote in
    behind_written w _ start _ c.args.room h need most at c.in_ok-meta_map.ensures.laid

pub returns-clause-parts : goal.returns-clause-parts
returns-clause-parts g c w start h need =
    let most = c.requires.room.most in
    let at = steps w _ start _ c.args.room h need most c.in_ok-mapping_root.ensures.wrote c.in_ok-details_root.ensures.wrote c.in_ok-data_map.ensures.wrote in
    record {
      mapping_root = c.in_ok-mapping_root.ensures.root ∙ mapping_root_is w _ start _ c.args.room h need most;
      details_root = c.in_ok-details_root.ensures.root ∙ details_root_is w _ start _ c.args.room h need most c.write_tree.new.draft.next at.details_at;
      data_map = c.in_ok-data_map.ensures.root ∙ data_map_is w _ start _ c.args.room h need most c.write_tree-2.new.draft.next at.bitmaps_at;
      meta_map = meta_map_is w _ start _ c.args.room h need most c.in_ok-meta_map.meta_map c.write_data_map.new.draft.next at.map_at c.in_ok-meta_map.ensures.root;
    }
